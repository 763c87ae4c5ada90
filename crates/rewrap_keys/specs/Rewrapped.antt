-- MongoDB Client Side Encryption, "rewrapManyDataKey": the key documents of a file under a new master key
use Rattle.std.specs.Prelude.{ℕ, ◌+◌, Bool, false, not, is_some, List, []}
use Rattle.std.specs.Prelude.{◌∷◌, drop, Option, unwrap_or, Result, Ok, Err}
use Rattle.bson_tree.specs.Tree.{Items}
use Rattle.data_key.specs.Key.{key_in}
use Rattle.data_key.specs.declared.key_doc.KeyDoc.{KeyDoc}
use Rattle.data_key.specs.declared.key_doc.KeyFault.{KeyFault}
use Rattle.data_key.specs.declared.key_doc.Provider.{Provider}
use Rattle.data_key.specs.declared.key_doc.Provider.TheVariants as providers
use Rattle.fle_outside.specs.Blocks.{Block}
use Rattle.key_vault.specs.Keys.{place_from}
use Rattle.local_kms.specs.Made.{block_at, material_of}
use Rattle.local_kms.specs.Wrapped.{unwrapped}
use Rattle.rewrap_keys.specs.Documents.{documents, spelled}
use Rattle.rewrap_keys.specs.Fields.{with_material}

-- a change of master key: the old one, the new one, and its time, in milliseconds since 1970 as 64 bits
pub record Change : Type 0 where
  pub from : List ℕ
  pub to : List ℕ
  pub time : ℕ

-- the same of its parts
abbrev pub change : List ℕ → List ℕ → ℕ → Change
change from to time = record { from = from; to = to; time = time }

-- the data key that a material opens to, sealed under the new master key and this IV
abbrev pub new_material : Change → Block → List ℕ → List ℕ
new_material c iv material = material_of c.to iv (unwrap_or (unwrapped c.from material) [])

-- how many blocks a key draws: a local one its IV
abbrev pub draws_by : Provider → ℕ
draws_by providers.Local = 1
draws_by providers.Other = 0

-- how many blocks these keys draw
abbrev pub draws_of : List KeyDoc → ℕ
draws_of [] = 0
draws_of (k ∷ ks) = draws_by k.provider + draws_of ks

-- the document of a key of this provider and with this material, whose IV is the first of these blocks
abbrev pub new_document : Change → List Block → Items → Provider → List ℕ → Items
new_document c blocks d providers.Local material = with_material (new_material c (block_at 0 blocks) material) c.time d
new_document c blocks d providers.Other material = d

-- the document by the key that it states, then those that are made of the others and the blocks that are left
abbrev pub then_others : Change → (List Block → List Items) → List Block → Items → Result KeyDoc KeyFault → List Items
then_others c others blocks d (Err fault) = d ∷ others blocks
then_others c others blocks d (Ok k) =
    new_document c blocks d k.provider k.material ∷ others (drop (draws_by k.provider) blocks)

-- the documents of local keys with new material, the i-th under the i-th block; the others as they are
abbrev pub rewrapped : Change → List Items → List Block → List Items
rewrapped c [] blocks = []
rewrapped c (d ∷ ds) blocks = then_others c (rewrapped c ds) blocks d (key_in d)

-- the bytes of a file under a new master key
unfoldable pub rewrapped_file : Change → List ℕ → List Block → List ℕ
rewrapped_file c bytes blocks = spelled (rewrapped c (documents bytes) blocks)

-- a key of this provider is damaged where the user holds its master key and its material doesn't open
abbrev pub is_damaged_by : Provider → Option (List ℕ) → Bool
is_damaged_by providers.Local key = not (is_some key)
is_damaged_by providers.Other key = false

-- the key is a local one that doesn't open under this master key
abbrev pub is_damaged : List ℕ → KeyDoc → Bool
is_damaged master k = is_damaged_by k.provider (unwrapped master k.material)

-- the number of the first damaged key, from 1
abbrev pub first_damaged : List ℕ → List KeyDoc → Option ℕ
first_damaged master ks = place_from 1 (is_damaged master) ks
