-- The data keys that are to be had, and why not
use Rattle.std.specs.Prelude.{◌≡◌, ℕ, List, [], ◌∷◌, map, Option, Some, None, Result, Ok, Err}
use Rattle.bson_codec.specs.Borrowed.{At}
use Rattle.data_key.specs.declared.key_doc.KeyDoc.{KeyDoc}
use Rattle.encrypt_schema.specs.Commands.Visits.{Refusal, or_else, refused_at, roles}
use Rattle.encrypt_schema.specs.Language.Row.{Row}
use Rattle.encrypt_schema.specs.declared.command.reason.Reason.{Reason}
use Rattle.encrypt_schema.specs.declared.command.reason.Reason.TheVariants as reasons
use Rattle.key_vault.specs.Lookup.{key_of, opened_key}
use Rattle.key_vault.specs.declared.lookup.Keyless.{Keyless}
use Rattle.key_vault.specs.declared.lookup.Keyless.TheVariants as keyless
use Rattle.payload6.specs.Needs.{Need, Id, Name}
use Rattle.payload6.specs.Verdicts.{id_in}
use Rattle.doc_rewrite.specs.Founds.{Place, payloads_of}
use Rattle.doc_rewrite.specs.Keys.{Found, Lookup, Table, key_in}
use Rattle.doc_rewrite.specs.Opened.{Keyring}
use Rattle.doc_rewrite.specs.Sites.{Site, sites_of}
use Rattle.context_machine.specs.Kept.{key_by}
use Rattle.context_machine.specs.Needs.{NeedAt}

-- to which data key an id or an alternate name leads, or why to none
abbrev pub Finder : Type 0
Finder = Need → Result Found Reason

-- the reason for which a document is refused whose key isn't to be had
abbrev pub keyless_reason : Keyless → Reason
keyless_reason keyless.Missing = reasons.KeyMissing
keyless_reason keyless.NotLocal = reasons.KeyNotLocal
keyless_reason keyless.Damaged = reasons.KeyDamaged

-- a data key, or the reason for which there is none
abbrev pub reasoned : Result (List ℕ) Keyless → Result (List ℕ) Reason
reasoned (Ok key) = Ok key
reasoned (Err why) = Err (keyless_reason why)

-- the data keys of key documents under a master key, by id
abbrev pub ring : List KeyDoc → List ℕ → Keyring
ring keys master id = reasoned (key_of keys master id)

-- a data key with this id, or the reason for which there is none
abbrev pub with_own : List ℕ → Result (List ℕ) Reason → Result Found Reason
with_own id (Ok key) = Ok (record { id = id; key = key })
with_own id (Err reason) = Err reason

-- the data key of a key document that was found, with the document's id, under a master key
abbrev pub found_key : List ℕ → Option KeyDoc → Result Found Reason
found_key master None = Err reasons.KeyMissing
found_key master (Some key) = with_own key.id (reasoned (opened_key master (Some key)))

-- the data keys of key documents under a master key: that of the first which has the id, or the name
abbrev pub finder : List KeyDoc → List ℕ → Finder
finder keys master need = found_key master (key_by keys need)

-- data keys by ids alone: no alternate name leads to one
abbrev pub by_ids : Keyring → Finder
by_ids keys (Id id) = with_own id (keys id)
by_ids keys (Name name) = Err reasons.KeyMissing

-- a data key where there is one
abbrev pub key_if : Result Found Reason → Option Found
key_if (Ok found) = Some found
key_if (Err reason) = None

-- the data keys that are to be had
abbrev pub found_in : Finder → Lookup
found_in keys need = key_if (keys need)

-- the reason for which there is no data key
abbrev pub reason_of : Result Found Reason → Option Reason
reason_of (Ok found) = None
reason_of (Err reason) = Some reason

-- the first value whose key isn't to be had
abbrev pub first_keyless : Finder → List NeedAt → Option Refusal
first_keyless keys [] = None
first_keyless keys (n ∷ ns) = or_else (refused_at n.at (reason_of (keys n.need))) (first_keyless keys ns)

-- the key of a need is to be had, and the table has it
abbrev pub IsOpened : Finder → Table → Need → Type 0
IsOpened keys table need = (found : Found) × (keys need ≡ Ok found) × (key_in table need ≡ Some found)

-- the table has the key of each value that needs one
abbrev pub AreOpened : Finder → List NeedAt → Table → Type 0
AreOpened keys [] table = Unit {0}
AreOpened keys (n ∷ ns) table = IsOpened keys table n.need × AreOpened keys ns table

-- a value that is to be sealed needs the key that its rule names: by an id, or by a text in the command
abbrev pub need_at : Site → NeedAt
need_at s = record { need = s.need; at = s.start }

-- the values of a command that are to be sealed
abbrev pub needs_of : List Row → At → List NeedAt
needs_of rows d = map need_at (sites_of rows d (roles rows d.start d.tree))

-- a payload needs the key of its id
abbrev pub need_in : Place → NeedAt
need_in p = record { need = Id (id_in p.contents); at = p.start }

-- the payloads of a document
abbrev pub needs_in : At → List NeedAt
needs_in d = map need_in (payloads_of d)
