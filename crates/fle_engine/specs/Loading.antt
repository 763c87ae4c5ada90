-- What an engine is made of, by the bytes of its files: a key vault, collection infos, a master key.
use Rattle.std.specs.Prelude.{◌≡◌, ℕ, Bool, not, ◌&&◌, nat_lt, List, length, Result, Ok, Err, if◌then◌else◌}
use Rattle.data_key.specs.declared.key_doc.KeyDoc.{KeyDoc}
use Rattle.encrypt_schema.specs.Language.Collection.{Collection}
use Rattle.fle_files.specs.Infos.{infos_read}
use Rattle.fle_files.specs.Numbers.{master_number, vault_number}
use Rattle.fle_files.specs.Limits.{file_limit, master_limit}
use Rattle.fle_files.specs.declared.infos.InfosFault.{InfosFault}
use Rattle.fle_files.specs.declared.infos.InfosFault.TheVariants as infos_faults
use Rattle.fle_stream.specs.declared.why.SetupFault.TheVariants as setups
use Rattle.key_vault.specs.Loading.{Faulty, vault}
use Rattle.local_kms.specs.Master.{master_in}
use Rattle.local_kms.specs.declared.master.MasterFault.{MasterFault}
use Rattle.fle_engine.specs.declared.loading.EngineFault.{EngineFault}
use Rattle.fle_engine.specs.declared.loading.EngineFault.TheVariants as faults

-- the keys of a vault, or its first fault
abbrev pub keys_or : Result (List KeyDoc) Faulty → Result (List KeyDoc) EngineFault
keys_or (Ok keys) = Ok keys
keys_or (Err faulty) = Err (faults.File 1 (setups.Contents (vault_number faulty.kind)) faulty.document)

-- the keys in these bytes: at most 67,108,864
abbrev pub keys_in : List ℕ → Result (List KeyDoc) EngineFault
keys_in bytes =
    if nat_lt file_limit (length bytes) then Err (faults.File 1 setups.TooLong 0) else keys_or (vault bytes)

-- the infos of a file, or its first fault; no file comes to want of memory
abbrev pub infos_or : Result (List Collection) InfosFault → Result (List Collection) EngineFault
infos_or (Ok infos) = Ok infos
infos_or (Err (infos_faults.Bad number document)) = Err (faults.File 2 (setups.Contents number) document)
infos_or (Err infos_faults.Memory) = Err faults.Memory

-- the infos in these bytes, of BSON or of a JSON text: at most 67,108,864
abbrev pub infos_in : List ℕ → Result (List Collection) EngineFault
infos_in bytes =
    if nat_lt file_limit (length bytes) then Err (faults.File 2 setups.TooLong 0) else infos_or (infos_read bytes)

-- the master key, or its fault
abbrev pub master_or : Result (List ℕ) MasterFault → Result (List ℕ) EngineFault
master_or (Ok master) = Ok master
master_or (Err fault) = Err (faults.File 3 (setups.Contents (master_number fault)) 0)

-- the master key in these bytes: at most 129
abbrev pub master_key_in : List ℕ → Result (List ℕ) EngineFault
master_key_in bytes =
    if nat_lt master_limit (length bytes) then Err (faults.File 3 setups.TooLong 0) else master_or (master_in bytes)

-- what an engine is made of, beside the name of its database
pub record Parts : Type 0 where
  pub keys : List KeyDoc
  pub infos : List Collection
  pub master : List ℕ

-- the name of a database has 1 to 63 bytes
abbrev pub is_database : List ℕ → Bool
is_database db = nat_lt 0 (length db) && not (nat_lt 63 (length db))

-- what the three files hold, or the first fault, in the order of the program's words
abbrev pub all_of : Result (List KeyDoc) EngineFault → Result (List Collection) EngineFault
    → Result (List ℕ) EngineFault → Result Parts EngineFault
all_of (Ok keys) (Ok infos) (Ok master) = Ok (record { keys = keys; infos = infos; master = master })
all_of (Ok keys) (Ok infos) (Err fault) = Err fault
all_of (Ok keys) (Err fault) master = Err fault
all_of (Err fault) infos master = Err fault

-- the same for a database, whose name is looked at first
unfoldable pub parts_in : List ℕ → List ℕ → List ℕ → List ℕ → Result Parts EngineFault
parts_in db vault infos master =
    if is_database db then all_of (keys_in vault) (infos_in infos) (master_key_in master) else Err faults.Database

-- what was read is what is in the bytes, or its fault; want of memory may come at any time
abbrev pub Reads : {A : Type 0} → Result A EngineFault → Result A EngineFault → Type 0
Reads there (Ok x) = there ≡ Ok x
Reads there (Err faults.Memory) = Unit {0}
Reads there (Err fault) = there ≡ Err fault
