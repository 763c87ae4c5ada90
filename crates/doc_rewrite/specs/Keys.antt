-- MongoDB Client Side Encryption: data keys by their ids and by their alternate names
use Rattle.std.specs.Prelude.{◌≡◌, ℕ, Option, Some, None, Result, Ok, Err, List, [], ◌∷◌, ◌++◌, length, bytes_eq}
use Rattle.std.specs.Prelude.{option_map, if◌then◌else◌}
use Rattle.encrypt_schema.specs.declared.command.reason.Reason.{Reason}
use Rattle.payload6.specs.Needs.{Need, Id, Name}
use Rattle.doc_rewrite.specs.declared.key_table.KeyEntry.{KeyEntry}
use Rattle.doc_rewrite.specs.declared.named_keys.NamedEntry.{NamedEntry}

-- a data key with its id
pub record Found : Type 0 where
  pub id : List ℕ
  pub key : List ℕ

-- which data key an id has
abbrev pub IdLookup : Type 0
IdLookup = List ℕ → Option (List ℕ)

-- to which data key an id or an alternate name leads
abbrev pub Lookup : Type 0
Lookup = Need → Option Found

-- which data key an id has, or why none
abbrev pub Keyring : Type 0
Keyring = List ℕ → Result (List ℕ) Reason

-- why an id has no key
abbrev pub reason_in : Result (List ℕ) Reason → Option Reason
reason_in (Ok key) = None
reason_in (Err reason) = Some reason

-- data keys in the order in which they were added: those by an id, and those by an alternate name
pub record Table : Type 0 where
  pub ids : List KeyEntry
  pub names : List NamedEntry

-- a table with one entry by an id more, behind the others
abbrev pub with_id : Table → KeyEntry → Table
with_id t e = record { ids = t.ids ++ e ∷ []; names = t.names }

-- a table with one entry by an alternate name more, behind the others
abbrev pub with_name : Table → NamedEntry → Table
with_name t e = record { ids = t.ids; names = t.names ++ e ∷ [] }

-- the data key of the first entry with an id
abbrev pub key_by_id : List KeyEntry → IdLookup
key_by_id [] id = None
key_by_id (e ∷ es) id = if bytes_eq e.id id then Some e.key else key_by_id es id

-- what an entry by an alternate name has
abbrev pub found_by : NamedEntry → Found
found_by e = record { id = e.id; key = e.key }

-- the data key of the first entry with an alternate name, with the id that the entry has
abbrev pub key_by_name : List NamedEntry → List ℕ → Option Found
key_by_name [] name = None
key_by_name (e ∷ es) name = if bytes_eq e.name name then Some (found_by e) else key_by_name es name

-- a data key under its id
abbrev pub under_id : List ℕ → Option (List ℕ) → Option Found
under_id id key = option_map (λ k. record { id = id; key = k }) key

-- the data key of an id in a table, or of an alternate name
abbrev pub key_in : Table → Lookup
key_in t (Id id) = under_id id (key_by_id t.ids id)
key_in t (Name name) = key_by_name t.names name

-- an id has 16 bytes; of an alternate name nothing is asked
abbrev pub IsLong : Need → Type 0
IsLong (Id id) = length id ≡ 16
IsLong (Name name) = Unit {0}

-- the ids of these entries have 16 bytes
abbrev pub HaveLongIds : List NamedEntry → Type 0
HaveLongIds [] = Unit {0}
HaveLongIds (e ∷ es) = (length e.id ≡ 16) × HaveLongIds es

-- each data key that an id of 16 bytes or an alternate name leads to has an id of 16 bytes
abbrev pub GivesLongIds : Lookup → Type 0
GivesLongIds keys = (need : Need) (f : Found) → IsLong need → keys need ≡ Some f → length f.id ≡ 16
