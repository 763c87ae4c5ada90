-- What a call comes to that starts a client, or puts or forgets an info or a key.
use Rattle.std.specs.Prelude.{◌≡◌, ℕ, ◌==◌, nat_lt, List, [], length, Option, Some, None, Result, Ok, Err}
use Rattle.std.specs.Prelude.{if◌then◌else◌}
use Rattle.bson_tree.specs.Tree.{Items}
use Rattle.encrypt_schema.specs.declared.command.reason.Reason.TheVariants as reasons
use Rattle.encrypt_schema.specs.declared.schema.faults.InfoKind.TheVariants as infos
use Rattle.fle_client.specs.Clients.{IsStarted, keys_of, master_of}
use Rattle.fle_client.specs.Filling.{ForgetsInfo, PutsInfo}
use Rattle.fle_client.specs.Known.{infos_of, own_of}
use Rattle.fle_client.specs.declared.client.Client.{Client}
use Rattle.fle_client.specs.declared.commands.CommandSet.{CommandSet}
use Rattle.fle_client.specs.declared.filling.InfoUnput.{InfoUnput}
use Rattle.fle_client.specs.declared.filling.InfoUnput.TheVariants as unput
use Rattle.fle_engine.specs.Loading.{Reads, master_key_in}
use Rattle.fle_engine.specs.declared.loading.EngineFault.{EngineFault}
use Rattle.fle_engine.specs.declared.loading.EngineFault.TheVariants as faults
use Rattle.fle_files.specs.Numbers.{infos_number, vault_number}
use Rattle.fle_stream.specs.declared.why.Number.{Number}
use Rattle.fle_stream.specs.declared.why.SetupFault.TheVariants as setups
use Rattle.key_vault.specs.Putting.{Puts, put_key}
use Rattle.key_vault.specs.declared.faults.PutFault.{PutFault}
use Rattle.key_vault.specs.declared.faults.PutFault.TheVariants as put_faults
use Rattle.key_vault.specs.declared.faults.VaultKind.TheVariants as vaults
use Rattle.fle_c.specs.Calls.{SizedAs, document_limit}
use Rattle.fle_c.specs.Flags.{FlagsAs, set_of_flags}
use Rattle.fle_c.specs.Telling.{bare, done, fault_told, refused_told}
use Rattle.fle_c.specs.declared.told.Told.{Told}

-- ---- a client is started

-- a master key, where there is one
abbrev pub with_master : Result (List ℕ) EngineFault → Result (Option (List ℕ)) EngineFault
with_master (Ok master) = Ok (Some master)
with_master (Err fault) = Err fault

-- the master key in these bytes, or its fault; no byte is none
abbrev pub start_key : List ℕ → Result (Option (List ℕ)) EngineFault
start_key bytes = if length bytes == 0 then Ok None else with_master (master_key_in bytes)

-- a client of these commands without infos and keys, with the master key that was read, or without one
pub record Starts (set : CommandSet) (read : Result (Option (List ℕ)) EngineFault) (client : Client) : Type 0 where
  pub master : Option (List ℕ)
  pub is : read ≡ Ok master
  pub started : IsStarted set master client

-- such a client is in the slot, by the master key in these bytes; or none, for their fault or for want of memory, which
-- is told
abbrev pub StartsBy : List ℕ → CommandSet → Option Client → Told → Type 0
StartsBy bytes set (Some client) told = Starts set (start_key bytes) client × (told ≡ done 0 0)
StartsBy bytes set None told =
    (fault : EngineFault) × Reads (start_key bytes) (Err fault) × (told ≡ fault_told fault)

-- the same by flags, which say what commands it takes
abbrev pub StartsAs : ℕ → List ℕ → Option Client → Told → Type 0
StartsAs flags bytes after told = FlagsAs (StartsBy bytes) (set_of_flags flags) after told

-- ---- a client is filled

-- the client of a slot is changed so; where none is open, that is told
abbrev pub ChangesAs : (Client → Client → Told → Type 0) → Option Client → Option Client → Told → Type 0
ChangesAs is (Some before) (Some after) told = is before after told
ChangesAs is None None told = told ≡ bare 11
ChangesAs is _ _ told = ⊥

-- the fault of a document that would fill a client, as of the first one in a file
abbrev pub document_told : ℕ → Number → Told
document_told file number = fault_told (faults.File file (setups.Contents number) 1)

-- a document of at most 16,777,216 bytes fills a client; where bytes spell none, this fault is told, and it stays
abbrev pub FillsAs : Told → (Items → Type 0) → List ℕ → Client → Client → Told → Type 0
FillsAs fault is bytes before after told =
    SizedAs (nat_lt document_limit (length bytes)) (λ _. fault) is bytes before after told

-- what is told of an info: it is put; the client is of another database alone; it is faulty; or memory ran out
abbrev pub info_told : Result Unit InfoUnput → Told
info_told (Ok _) = done 0 0
info_told (Err unput.WrongDb) = refused_told reasons.WrongDb 0
info_told (Err (unput.Bad kind)) = document_told 2 (infos_number kind)
info_told (Err unput.Memory) = bare 8

-- an info is put into what a client knows of a database, or isn't; its commands and keys stay
pub record PutsInfoInto (db : List ℕ) (before after : Client) (told : Told) (info : Items) : Type 0 where
  pub put : Result Unit InfoUnput
  pub rules : PutsInfo before.rules after.rules db info put
  pub commands : after.commands ≡ before.commands
  pub keys : after.keys ≡ before.keys
  pub numbers : told ≡ info_told put

-- the same of the info in these bytes
abbrev pub PutsInfoAs : List ℕ → List ℕ → Client → Client → Told → Type 0
PutsInfoAs db bytes before after told =
    FillsAs (document_told 2 (infos_number infos.Bson)) (PutsInfoInto db before after told) bytes before after told

-- the info of a name is forgotten in a database, where there is one; the commands and keys of a client stay
pub record ForgetsInfoAs (db name : List ℕ) (before after : Client) (told : Told) : Type 0 where
  pub rules : ForgetsInfo before.rules after.rules db name
  pub commands : after.commands ≡ before.commands
  pub keys : after.keys ≡ before.keys
  pub numbers : told ≡ done 0 0

-- all infos are forgotten; a client is of the same database alone, or of many, and its commands and keys stay
pub record ForgetsInfosAs (before after : Client) (told : Told) : Type 0 where
  pub none : (db : List ℕ) → infos_of after.rules db ≡ []
  pub own : own_of after.rules ≡ own_of before.rules
  pub commands : after.commands ≡ before.commands
  pub keys : after.keys ≡ before.keys
  pub numbers : told ≡ done 0 0

-- what is told of a key: it is put; it is faulty, by itself or beside the others; or memory ran out
abbrev pub key_told : Result Unit PutFault → Told
key_told (Ok _) = done 0 0
key_told (Err (put_faults.Bad kind)) = document_told 1 (vault_number kind)
key_told (Err put_faults.Memory) = bare 8

-- a key is put behind the others of a client, or isn't; its rules, its commands and its master key stay
pub record PutsKeyInto (before after : Client) (told : Told) (key : Items) : Type 0 where
  pub put : Result Unit PutFault
  pub keys : Puts (keys_of before.keys) (keys_of after.keys) put (put_key (keys_of before.keys) key)
  pub master : master_of after.keys ≡ master_of before.keys
  pub rules : after.rules ≡ before.rules
  pub commands : after.commands ≡ before.commands
  pub numbers : told ≡ key_told put

-- the same of the key document in these bytes
abbrev pub PutsKeyAs : List ℕ → Client → Client → Told → Type 0
PutsKeyAs bytes before after told =
    FillsAs (document_told 1 (vault_number vaults.Bson)) (PutsKeyInto before after told) bytes before after told

-- all keys are forgotten; the rules, the commands and the master key of a client stay
pub record ForgetsKeysAs (before after : Client) (told : Told) : Type 0 where
  pub none : keys_of after.keys ≡ []
  pub master : master_of after.keys ≡ master_of before.keys
  pub rules : after.rules ≡ before.rules
  pub commands : after.commands ≡ before.commands
  pub numbers : told ≡ done 0 0
