-- What a vault under a new master key is, read again.
use Rattle.std.specs.Prelude.{◌≡◌, ◌<◌, ◌≤◌, ℕ, List, [], ◌∷◌, drop, length, None, Ok}
use Rattle.std.specs.List.{All}
use Rattle.data_key.specs.declared.key_doc.KeyDoc.{KeyDoc}
use Rattle.data_key.specs.declared.key_doc.Provider.{Provider}
use Rattle.data_key.specs.declared.key_doc.Provider.TheVariants as providers
use Rattle.fle_outside.specs.Blocks.{AreBlocks, Block}
use Rattle.key_vault.specs.Keys.{key_by_id, key_by_name}
use Rattle.key_vault.specs.Loading.{vault}
use Rattle.key_vault.specs.Lookup.{opened_key}
use Rattle.local_kms.specs.Made.{block_at}
use Rattle.rewrap_keys.specs.Rewrapped.{Change, draws_by, draws_of, first_damaged, new_material}

-- the material of a key of this provider, sealed anew where it is a local one
abbrev pub material_by : Change → List Block → Provider → List ℕ → List ℕ
material_by c blocks providers.Local material = new_material c (block_at 0 blocks) material
material_by c blocks providers.Other material = material

-- a key whose IV is the first of these blocks
abbrev pub new_key : Change → List Block → KeyDoc → KeyDoc
new_key c blocks k = record {
  id = k.id;
  names = k.names;
  material = material_by c blocks k.provider k.material;
  provider = k.provider;
}

-- the keys in order, each with the same id, names and provider
abbrev pub new_keys : Change → List KeyDoc → List Block → List KeyDoc
new_keys c [] blocks = []
new_keys c (k ∷ ks) blocks = new_key c blocks k ∷ new_keys c ks (drop (draws_by k.provider) blocks)

-- the id, the names and the provider of a key
pub record Label : Type 0 where
  pub id : List ℕ
  pub names : List (List ℕ)
  pub provider : Provider

-- the same of each of these keys
abbrev pub labels : List KeyDoc → List Label
labels [] = []
labels (k ∷ ks) = record { id = k.id; names = k.names; provider = k.provider } ∷ labels ks

-- a file of bytes that loads as these keys, none of them damaged, and random blocks, one at least for each local key
pub record CanRewrap (c : Change) (bytes : List ℕ) (keys : List KeyDoc) (blocks : List Block) : Type 0 where
  pub are_bytes : All (λ b. b < 256) bytes
  pub loaded : vault bytes ≡ Ok keys
  pub whole : first_damaged c.from keys ≡ None
  pub are_blocks : AreBlocks blocks
  pub enough : draws_of keys ≤ length blocks

-- the bytes load as a vault with the ids, names and providers of these keys in their order, and look-up under the new
-- master key gives what it gave under the old one
pub record Reloads (from to : List ℕ) (keys : List KeyDoc) (bytes : List ℕ) : Type 0 where
  pub now : List KeyDoc
  pub loads : vault bytes ≡ Ok now
  pub same : labels now ≡ labels keys
  pub by_id : (id : List ℕ) → opened_key to (key_by_id now id) ≡ opened_key from (key_by_id keys id)
  pub by_name : (name : List ℕ) → opened_key to (key_by_name now name) ≡ opened_key from (key_by_name keys name)
