-- MongoDB Client Side Encryption, decryption: what the steps of opening a document answer
use Rattle.std.specs.Prelude.{◌≡◌, ℕ, Bool, false, List, Some, Ok, Err}
use Rattle.bson_tree.specs.Tree.{Items}
use Rattle.bson_tree.specs.Spelling.{doc_bytes}
use Rattle.bson_codec.specs.Borrowed.{At}
use Rattle.encrypt_schema.specs.declared.command.marks.MarkFault.{MarkFault}
use Rattle.encrypt_schema.specs.declared.command.marks.MarkFault.TheVariants as faults
use Rattle.doc_rewrite.specs.Founds.{payloads_of}
use Rattle.doc_rewrite.specs.Opened.{Keyring, first_wrong, misshapen, opened}
use Rattle.doc_rewrite.specs.declared.found.FoundAt.{FoundAt}
use Rattle.doc_rewrite.specs.declared.unsealing.Spot.{Spot}
use Rattle.payload6.specs.Needs.{Id}
use Rattle.context_machine.specs.Needs.{NeedAt, put_new}

-- a payload that was found needs the key of its id
abbrev pub need_found : FoundAt → NeedAt
need_found f = record { need = Id f.key_id; at = f.start }

-- the needs of the payloads that were told of, and whether memory ran short
pub record Gathers : Type 0 where
  pub needs : List NeedAt
  pub short : Bool

-- one more was told of: unless memory ran short by then, its need is put behind those before where it is a new one
abbrev pub GathersOne : Gathers → Gathers → FoundAt → Type 0
GathersOne before after f = after.short ≡ false
    → (before.short ≡ false) × (after.needs ≡ put_new before.needs (need_found f))

-- the first payload of a length that none has; or there was no memory
abbrev pub IsMisshapen : At → MarkFault → Type 0
IsMisshapen d (faults.Refused reason at) =
    first_wrong misshapen (payloads_of d) ≡ Some (record { reason = reason; at = at })
IsMisshapen d faults.Memory = Unit {0}

-- the document opens to these bytes
abbrev pub OpensTo : Keyring → At → List ℕ → Type 0
OpensTo keys d bytes = (is : Items) × (opened keys d ≡ Ok is) × (bytes ≡ doc_bytes is)

-- the document isn't opened, for this reason at this payload
abbrev pub StaysSealed : Keyring → At → Spot → Type 0
StaysSealed keys d spot = opened keys d ≡ Err (record { reason = spot.reason; at = spot.at })
