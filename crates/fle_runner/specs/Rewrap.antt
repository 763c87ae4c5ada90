-- `rewrap OLD NEW KEYS`: the keys of a vault under another master key.
use Rattle.std.specs.Prelude.{ℕ, Option, Some, None, List}
use Rattle.encrypt_schema.specs.declared.command.reason.Reason.TheVariants as reasons
use Rattle.fle_files.specs.Numbers.{reason_number}
use Rattle.fle_files.specs.Setup.{with_keys, with_master}
use Rattle.fle_runner.specs.declared.rewrap.RewrapFiles.{RewrapFiles}
use Rattle.fle_stream.specs.Plan.{Plan}
use Rattle.fle_stream.specs.Task.{Task, fails, makes}
use Rattle.fle_stream.specs.declared.why.Cut.TheVariants as cuts
use Rattle.fle_stream.specs.declared.why.Finish.TheVariants as finishes
use Rattle.fle_stream.specs.declared.why.Why.{Why}
use Rattle.fle_stream.specs.declared.why.Why.TheVariants as whys
use Rattle.rewrap_keys.specs.Rewrapped.{change, first_damaged}
pub use Rattle.fle_engine.specs.KeyRulings.{rewrap_plan}
use Rattle.rewrap_keys.specs.declared.rewrapping.RewrapFault.{RewrapFault}
use Rattle.rewrap_keys.specs.declared.rewrapping.RewrapFault.TheVariants as faults

-- the end of a run whose vault has, at this number, the first local key that doesn't open; else what is made
abbrev pub unless_damaged : Option ℕ → Plan → Task
unless_damaged None plan = makes plan
unless_damaged (Some document) plan = fails (finishes.Key (reason_number reasons.KeyDamaged) document)

-- what a vault comes to whose keys change their master key at this time
abbrev pub rewrap_held : ℕ → RewrapFiles → Task
rewrap_held now held =
    unless_damaged (first_damaged held.from held.vault.keys)
    (rewrap_plan (change held.from held.to now) held.vault.bytes held.vault.keys)

-- the files of the words, in order: the old master key, the new one and the vault; or one is missing, too long or at
-- fault
abbrev pub with_rewrap : Option (List ℕ) → Option (List ℕ) → Option (List ℕ) → (RewrapFiles → Task) → Task
with_rewrap from to vault next =
    with_master 1 from (λ old. with_master 2 to (λ new. with_keys 3 vault
    (λ keys. next (record { from = old; to = new; vault = keys }))))

-- the keys of the vault that the third file has, from under the master key of the first to under that of the second
abbrev pub rewrap_task : ℕ → Option (List ℕ) → Option (List ℕ) → Option (List ℕ) → Task
rewrap_task now from to vault = with_rewrap from to vault (rewrap_held now)

-- why a run ends whose vault isn't made anew
abbrev pub rewrap_why : RewrapFault → Why
rewrap_why (faults.Damaged document) = whys.Finished (finishes.Key (reason_number reasons.KeyDamaged) document)
rewrap_why faults.EntropyFailed = whys.Cut cuts.Entropy
rewrap_why faults.Memory = whys.Cut cuts.Memory

-- the ends that `rewrap` can make
abbrev pub IsOfRewrap : Why → Type 0
IsOfRewrap (whys.Finished finishes.Done) = Unit {0}
IsOfRewrap (whys.Finished (finishes.Setup file fault document)) = Unit {0}
IsOfRewrap (whys.Finished (finishes.Key reason document)) = Unit {0}
IsOfRewrap (whys.Finished finish) = ⊥
IsOfRewrap (whys.Cut cuts.Input) = ⊥
IsOfRewrap (whys.Cut cut) = Unit {0}

-- the ends that making and writing the file can make
abbrev pub IsOfVault : Why → Type 0
IsOfVault (whys.Finished finishes.Done) = Unit {0}
IsOfVault (whys.Finished (finishes.Key reason document)) = Unit {0}
IsOfVault (whys.Cut cuts.Output) = Unit {0}
IsOfVault (whys.Cut cuts.Entropy) = Unit {0}
IsOfVault (whys.Cut cuts.Memory) = Unit {0}
IsOfVault _ = ⊥
