-- MongoDB Client Side Encryption, decryption: a document opened, or the reason for which it isn't
use Rattle.std.specs.Prelude.{◌≡◌, ℕ, ◌+◌, ◌-◌, ◌%◌, ◌==◌, ◌&&◌, Bool, nat_lt, List, [], ◌∷◌, length, Option}
use Rattle.std.specs.Prelude.{Some, None, Result, Ok, Err, if◌then◌else◌}
use Rattle.bson_tree.specs.Tree.{Tree, Items}
use Rattle.bson_codec.specs.Borrowed.{At}
use Rattle.encrypt_schema.specs.Commands.Visits.{Refusal, or_else, refused_at}
use Rattle.encrypt_schema.specs.declared.command.reason.Reason.{Reason}
use Rattle.encrypt_schema.specs.declared.command.reason.Reason.TheVariants as reasons
use Rattle.payload6.specs.Needs.{Need}
use Rattle.payload6.specs.Verdicts.{id_in, value_in, wrong}
use Rattle.doc_rewrite.specs.Founds.{Place, payloads_of, opened_items}
use Rattle.doc_rewrite.specs.Keys.{Found, IdLookup, Lookup}
pub use Rattle.doc_rewrite.specs.Keys.{Keyring, reason_in}

-- the key of an id; no bytes where it has none
abbrev pub key_or_none : Result (List ℕ) Reason → List ℕ
key_or_none (Ok key) = key
key_or_none (Err reason) = []

-- keys by their ids, where a key that isn't there is missing
abbrev pub found_or_missing : Option (List ℕ) → Result (List ℕ) Reason
found_or_missing (Some key) = Ok key
found_or_missing None = Err reasons.KeyMissing

-- a look-up by ids as a keyring
abbrev pub ring_of : IdLookup → Keyring
ring_of keys id = found_or_missing (keys id)

-- each key that may be looked up is had, under its id
abbrev pub HasAll : Keyring → Lookup → Type 0
HasAll ring keys = (need : Need) (f : Found) → keys need ≡ Some f → ring f.id ≡ Ok f.key

-- the first payload for which there is a reason
abbrev pub first_wrong : (Place → Option Reason) → List Place → Option Refusal
first_wrong judge [] = None
first_wrong judge (p ∷ ps) = or_else (refused_at p.start (judge p)) (first_wrong judge ps)

-- BSON binary subtype 6: 18 bytes, and behind them an IV, one or more blocks of 16 bytes and a tag, 66 and 16 for
-- each block
abbrev pub is_payload_length : ℕ → Bool
is_payload_length n = nat_lt 66 n && (n - 66) % 16 == 0

-- a payload has a length that none has
abbrev pub misshapen : Place → Option Reason
misshapen p = if is_payload_length (length p.contents) then None else Some reasons.PayloadShape

-- the key of a payload's id isn't to be had
abbrev pub keyless : Keyring → Place → Option Reason
keyless keys p = reason_in (keys (id_in p.contents))

-- a payload's tag, padding or value is wrong
abbrev pub spoilt : Keyring → Place → Option Reason
spoilt keys p = wrong (key_or_none (keys (id_in p.contents))) p.levels p.contents

-- the value that the bytes of a payload open to
abbrev pub value_of : Keyring → List ℕ → Tree
value_of keys bytes = value_in (key_or_none (keys (id_in bytes))) bytes

-- why payloads aren't opened: the lengths of all are judged, then the keys of all, then each payload
abbrev pub opening_refusal : Keyring → List Place → Option Refusal
opening_refusal keys ps =
    or_else (first_wrong misshapen ps) (or_else (first_wrong (keyless keys) ps) (first_wrong (spoilt keys) ps))

-- the document with each payload's value in its place
abbrev pub opened_whole : Keyring → At → Items
opened_whole keys d = opened_items (value_of keys) (d.start + 4) d.tree

-- the opened document, where nothing is refused
abbrev pub opened_unless : Items → Option Refusal → Result Items Refusal
opened_unless is None = Ok is
opened_unless is (Some refusal) = Err refusal

-- a document opened under these keys, or why not
unfoldable pub opened : Keyring → At → Result Items Refusal
opened keys d = opened_unless (opened_whole keys d) (opening_refusal keys (payloads_of d))
