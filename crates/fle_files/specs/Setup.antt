-- What the named files of the words hold, each by its number in the order of the words: a key vault, collection infos,
-- a master key.
use Rattle.std.specs.Prelude.{◌≡◌, ℕ, Option, Result, Ok, Err, List}
use Rattle.data_key.specs.declared.key_doc.KeyDoc.{KeyDoc}
use Rattle.encrypt_schema.specs.Language.Collection.{Collection}
use Rattle.key_vault.specs.Loading.{Faulty, vault}
use Rattle.key_vault.specs.declared.faults.VaultFault.{VaultFault}
use Rattle.key_vault.specs.declared.faults.VaultFault.TheVariants as vault_faults
use Rattle.local_kms.specs.Master.{master_in}
use Rattle.local_kms.specs.declared.master.MasterFault.{MasterFault}
use Rattle.fle_stream.specs.Task.{Task, fails, with_file}
use Rattle.fle_stream.specs.declared.why.Finish.{Finish}
use Rattle.fle_stream.specs.declared.why.Finish.TheVariants as finishes
use Rattle.fle_stream.specs.declared.why.Cut.TheVariants as cuts
use Rattle.fle_stream.specs.declared.why.Number.{Number}
use Rattle.fle_stream.specs.declared.why.SetupFault.TheVariants as setups
use Rattle.fle_stream.specs.declared.why.Why.{Why}
use Rattle.fle_stream.specs.declared.why.Why.TheVariants as whys
use Rattle.fle_files.specs.Infos.{infos_read}
use Rattle.fle_files.specs.Limits.{file_limit, master_limit}
use Rattle.fle_files.specs.Numbers.{master_number, vault_number}
use Rattle.fle_files.specs.declared.infos.InfosFault.{InfosFault}
use Rattle.fle_files.specs.declared.infos.InfosFault.TheVariants as infos_faults
use Rattle.fle_files.specs.declared.setup.KeysFile.{KeysFile}

-- the contents of this file are at fault: the fault's number, and that of the faulty document in it, 0 where it is at
-- fault as a whole
abbrev pub at_fault : ℕ → Number → ℕ → Finish
at_fault file number document = finishes.Setup file (setups.Contents number) document

-- why a run ends whose file of collection infos is at fault
abbrev pub infos_why : ℕ → InfosFault → Why
infos_why file (infos_faults.Bad number document) = whys.Finished (at_fault file number document)
infos_why file infos_faults.Memory = whys.Cut cuts.Memory

-- why a run ends whose key vault is at fault
abbrev pub vault_why : ℕ → VaultFault → Why
vault_why file (vault_faults.Bad document kind) = whys.Finished (at_fault file (vault_number kind) document)
vault_why file vault_faults.Memory = whys.Cut cuts.Memory

-- why a run ends whose master key's file is at fault
abbrev pub master_why : ℕ → MasterFault → Why
master_why file fault = whys.Finished (at_fault file (master_number fault) 0)

-- what is read of a file leads on, or the file is at fault; no infos come to want of memory
abbrev pub infos_or : ℕ → (List Collection → Task) → Result (List Collection) InfosFault → Task
infos_or file next (Ok infos) = next infos
infos_or file next (Err (infos_faults.Bad number document)) = fails (at_fault file number document)
infos_or file next (Err infos_faults.Memory) = fails finishes.Done

-- what the vault's keys lead on to, or the end of a run whose vault is at fault
abbrev pub vault_or : ℕ → (List KeyDoc → Task) → Result (List KeyDoc) Faulty → Task
vault_or file next (Ok keys) = next keys
vault_or file next (Err faulty) = fails (at_fault file (vault_number faulty.kind) faulty.document)

-- what the master key leads on to, or the end of a run whose master key's file is at fault
abbrev pub master_or : ℕ → (List ℕ → Task) → Result (List ℕ) MasterFault → Task
master_or file next (Ok master) = next master
master_or file next (Err fault) = fails (at_fault file (master_number fault) 0)

-- the file of collection infos is missing, too long or at fault, or what it holds leads on
abbrev pub with_infos : ℕ → Option (List ℕ) → (List Collection → Task) → Task
with_infos number file next = with_file number file_limit file (λ bytes. infos_or number next (infos_read bytes))

-- the vault is missing, too long or at fault, or its keys lead on
abbrev pub with_vault : ℕ → Option (List ℕ) → (List KeyDoc → Task) → Task
with_vault number file next = with_file number file_limit file (λ bytes. vault_or number next (vault bytes))

-- the same where the file's bytes lead on beside its keys
abbrev pub with_keys : ℕ → Option (List ℕ) → (KeysFile → Task) → Task
with_keys number file next =
    with_file number file_limit file
    (λ bytes. vault_or number (λ keys. next (record { bytes = bytes; keys = keys })) (vault bytes))

-- the master key's file is missing, too long or at fault, or the key leads on
abbrev pub with_master : ℕ → Option (List ℕ) → (List ℕ → Task) → Task
with_master number file next = with_file number master_limit file (λ bytes. master_or number next (master_in bytes))

-- what was loaded leads on, or the task fails for this reason; a folder's failure and want of memory may come at any
-- time
abbrev pub Leads : {A : Type 0} → ((A → Task) → Task) → Result A Why → Type 0
Leads {A = A} files (Ok held) = (next : A → Task) → files next ≡ next held
Leads {A = A} files (Err (whys.Finished finish)) = (next : A → Task) → files next ≡ fails finish
Leads files (Err (whys.Cut cuts.Folder)) = Unit {0}
Leads files (Err (whys.Cut cuts.Memory)) = Unit {0}
Leads files (Err (whys.Cut cut)) = ⊥
