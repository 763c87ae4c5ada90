-- How the code makes the table of the data keys that are needed
use Rattle.std.specs.Prelude.{◌≡◌, List, [], ◌∷◌, Some, Result, Ok, Err}
use Rattle.encrypt_schema.specs.Commands.Visits.{Refusal}
use Rattle.encrypt_schema.specs.declared.command.reason.Reason.{Reason}
use Rattle.payload6.specs.Needs.{Need, Id, Name}
use Rattle.doc_rewrite.specs.Keys.{Found, Table, with_id, with_name}
use Rattle.context_machine.specs.Needs.{NeedAt}
use Rattle.context_machine.specs.Rings.{AreOpened, Finder, first_keyless}
use Rattle.context_machine.specs.declared.opened_keys.KeysStop.{KeysStop}
use Rattle.context_machine.specs.declared.opened_keys.KeysStop.TheVariants as stops

-- no data key
abbrev pub no_keys : Table
no_keys = record { ids = []; names = [] }

-- a table with the data key of a need behind the others, under what names it
abbrev pub with_found : Table → Need → Found → Table
with_found t (Id id) found = with_id t (record { id = id; key = found.key })
with_found t (Name name) found = with_name t (record { name = name; id = found.id; key = found.key })

-- what comes of a value's data key, or the refusal of the value
abbrev pub if_found : NeedAt → (Found → Result Table Refusal) → Result Found Reason → Result Table Refusal
if_found n others (Err reason) = Err (record { reason = reason; at = n.at })
if_found n others (Ok found) = others found

-- the data keys of values put behind those of a table, in order; or the first value whose key isn't to be had
abbrev pub table_from : Finder → Table → List NeedAt → Result Table Refusal
table_from keys t [] = Ok t
table_from keys t (n ∷ ns) = if_found n (λ found. table_from keys (with_found t n.need found) ns) (keys n.need)

-- the same with none before
abbrev pub table_of : Finder → List NeedAt → Result Table Refusal
table_of keys ns = table_from keys no_keys ns

-- the value is refused for this reason, or there was no memory
abbrev pub StopsAt : NeedAt → Result Found Reason → KeysStop → Type 0
StopsAt n key (stops.Refused reason at) = (key ≡ Err reason) × (at ≡ n.at)
StopsAt n key stops.TooLong = ⊥
StopsAt n key stops.Memory = Unit {0}

-- there was no memory
abbrev pub IsShort : KeysStop → Type 0
IsShort stop = stop ≡ stops.Memory

-- the data key of a value is put behind those before, or the value is refused
abbrev pub PutsKey : NeedAt → Result Found Reason → Table → Table → Result (Unit {0}) KeysStop → Type 0
PutsKey n key before now (Ok _) = (found : Found) × (key ≡ Ok found) × (now ≡ with_found before n.need found)
PutsKey n key before now (Err stop) = StopsAt n key stop

-- this is the table, or the refusal; want of memory may come at any time
abbrev pub TellsTable : Result Table Refusal → Result Table KeysStop → Type 0
TellsTable made (Ok table) = made ≡ Ok table
TellsTable made (Err (stops.Refused reason at)) = made ≡ Err (record { reason = reason; at = at })
TellsTable made (Err stops.TooLong) = ⊥
TellsTable made (Err stops.Memory) = Unit {0}

-- these values are refused, at the first whose key isn't to be had, or there was no memory
abbrev pub KeysFail : Finder → List NeedAt → KeysStop → Type 0
KeysFail keys ns (stops.Refused reason at) = first_keyless keys ns ≡ Some (record { reason = reason; at = at })
KeysFail keys ns stops.TooLong = ⊥
KeysFail keys ns stops.Memory = Unit {0}

-- the table has the key of each of these values, or they are refused
abbrev pub OpensKeys : Finder → List NeedAt → Result Table KeysStop → Type 0
OpensKeys keys ns (Ok table) = AreOpened keys ns table
OpensKeys keys ns (Err stop) = KeysFail keys ns stop
