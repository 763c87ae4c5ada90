-- `rewrap OLD NEW KEYS`: what the files of the words hold, and what a run then wrote.
use Rattle.std.specs.Prelude.{◌≡◌, ℕ, ◌<◌, Some, None, Ok, List, [], ◌∷◌, codes, length}
use Rattle.std.specs.List.{All}
use Rattle.fle_files.specs.Limits.{file_limit, master_limit}
use Rattle.fle_outside.specs.Blocks.{Block}
use Rattle.fle_outside.specs.Files.{Files}
use Rattle.fle_outside.specs.Seen.{Draws, EntropySeen, Gains, SinkSeen}
use Rattle.fle_runner.specs.HeadlineFiles.{HoldsBytes}
use Rattle.fle_runner.specs.declared.rewrap.RewrapFiles.{RewrapFiles}
use Rattle.fle_stream.specs.Ended.{World}
use Rattle.fle_stream.specs.declared.status.Status.{Status}
use Rattle.fle_stream.specs.declared.status.Status.TheVariants as statuses
use Rattle.key_vault.specs.Loading.{vault}
use Rattle.local_kms.specs.Master.{master_in}
use Rattle.rewrap_keys.specs.Reloaded.{Reloads}
use Rattle.rewrap_keys.specs.Rewrapped.{change, draws_of, first_damaged, rewrapped_file}

-- the file of this name holds this master key
pub record HoldsMaster (all : Files) (name master : List ℕ) : Type 0 where
  pub bytes : List ℕ
  pub file : HoldsBytes all name master_limit bytes
  pub says : master_in bytes ≡ Ok master

-- the words are `rewrap OLD NEW KEYS`, none of which is empty, and the files are there, within their limits, and hold
-- two master keys and a vault
pub record IsRewrap (words : List (List ℕ)) (all : Files) (x : RewrapFiles) : Type 0 where
  pub from : List ℕ
  pub to : List ℕ
  pub keys : List ℕ
  pub form : words ≡ codes "rewrap" ∷ from ∷ to ∷ keys ∷ []
  pub others : (0 < length from) × (0 < length to) × (0 < length keys)
  pub from_held : HoldsMaster all from x.from
  pub to_held : HoldsMaster all to x.to
  pub vault_file : HoldsBytes all keys file_limit x.vault.bytes
  pub vault_says : vault x.vault.bytes ≡ Ok x.vault.keys

-- the run drew a block for each local key, each of which opened under the old master key; it wrote the file of the
-- vault under the new one, made at this time of these blocks, and nothing else; and that file loads as the same keys,
-- which open under the new master key to what they opened to under the old one
pub record RewritesVault (now : ℕ) (x : RewrapFiles) (entropy entropy_after : EntropySeen)
    (out out_after : SinkSeen) : Type 0 where
  pub blocks : List Block
  pub number : length blocks ≡ draws_of x.vault.keys
  pub draws : Draws entropy entropy_after blocks
  pub undamaged : first_damaged x.from x.vault.keys ≡ None
  pub gains : Gains out.told out_after.told (rewrapped_file (change x.from x.to now) x.vault.bytes blocks)
  pub reloads : Reloads x.from x.to x.vault.keys (rewrapped_file (change x.from x.to now) x.vault.bytes blocks)

-- MongoDB Client Side Encryption, "rewrapManyDataKey": with status 0, the vault was written under the new master key
abbrev pub RewrapsVault : ℕ → List (List ℕ) → World → World → Status → Type 0
RewrapsVault now words before after status =
    (all : Files) (x : RewrapFiles) → before.files.told ≡ Some all → IsRewrap words all x
    → All (λ b. b < 256) x.vault.bytes → status ≡ statuses.Done
    → RewritesVault now x before.entropy after.entropy before.out after.out
