-- MongoDB Client Side Encryption, BSON binary subtype 6, decryption: what a payload opens to under a key, or why it
-- isn't opened, as functions of its bytes
use Rattle.std.specs.Prelude.{◌≡◌, ℕ, ◌==◌, Bool, false, not, ◌&&◌, List, [], length, take, drop, slice_index, Option}
use Rattle.std.specs.Prelude.{Some, None, unwrap_or, Result, Ok, Err, if◌then◌else◌}
use Rattle.bson_tree.specs.Tree.{Tree}
use Rattle.bson_codec.specs.declared.fault.BsonFault.{BsonFault}
use Rattle.bson_codec.specs.declared.table.ValueLayout.{ValueLayout}
use Rattle.bson_codec.specs.Borrowed.{value_tree}
use Rattle.bson_codec.specs.Reading.{value_at, inside_at, width_of}
use Rattle.bson_codec.specs.Table.{layout_of}
use Rattle.encrypt_schema.specs.declared.command.reason.Reason.{Reason}
use Rattle.encrypt_schema.specs.declared.command.reason.Reason.TheVariants as reasons
use Rattle.fle_aead.specs.Sealed.{is_tagged, opened_message}
use Rattle.payload6.specs.declared.opening.PayloadFault.{PayloadFault}
use Rattle.payload6.specs.declared.opening.PayloadFault.TheVariants as faults
use Rattle.payload6.specs.Opening.{is_single}

-- bytes 0 to 17 of a payload: the associated data
abbrev pub head_in : List ℕ → List ℕ
head_in bytes = take 18 bytes

-- bytes 1 to 16: the id of the key
abbrev pub id_in : List ℕ → List ℕ
id_in bytes = take 16 (drop 1 bytes)

-- byte 17: the BSON type of the original value
abbrev pub type_in : List ℕ → ℕ
type_in bytes = slice_index bytes 17

-- the bytes from 18 on: the sealed message
abbrev pub sealed_in : List ℕ → List ℕ
sealed_in bytes = drop 18 bytes

-- BSON 1.1: a value of this layout, in which documents may add so many levels, is read from the bytes and ends where
-- they end
abbrev pub ends : ℕ → Result ℕ BsonFault → Bool
ends size (Ok n) = n == size
ends size (Err fault) = false

-- bytes are the spelling of a value of this type: its layout reads them to their end
abbrev pub spells : ℕ → ℕ → Option ValueLayout → List ℕ → Bool
spells levels type None bytes = false
spells levels type (Some layout) bytes = ends (length bytes)
    (width_of (value_at (inside_at levels) type layout 0 bytes))

-- the bytes spell a value of a type that may be sealed, which adds at most so many levels
unfoldable pub is_original : ℕ → ℕ → List ℕ → Bool
is_original levels type bytes = not (is_single type) && spells levels type (layout_of type) bytes

-- what was sealed, where tag and padding are right
unfoldable pub plain_in : List ℕ → List ℕ → Option (List ℕ)
plain_in key bytes = opened_message key (head_in bytes) (sealed_in bytes)

-- what is wrong where nothing opens: the tag, or else the padding
abbrev pub unopened : Bool → Reason
unopened tagged = if tagged then reasons.Padding else reasons.TagMismatch

-- what is wrong with what was sealed: it is no value that may be sealed
abbrev pub plain_wrong : ℕ → ℕ → Bool → Option (List ℕ) → Option Reason
plain_wrong levels type tagged None = Some (unopened tagged)
plain_wrong levels type tagged (Some plain) = if is_original levels type plain then None else Some reasons.Plain

-- why a payload isn't opened: its tag is judged, then its padding, then the value
unfoldable pub wrong : List ℕ → ℕ → List ℕ → Option Reason
wrong key levels bytes =
    plain_wrong levels (type_in bytes) (is_tagged key (head_in bytes) (sealed_in bytes)) (plain_in key bytes)

-- the value that a payload opens to
unfoldable pub value_in : List ℕ → List ℕ → Tree
value_in key bytes = value_tree (type_in bytes) (unwrap_or (plain_in key bytes) [])

-- the reason of a fault
abbrev pub reason_of : PayloadFault → Reason
reason_of (faults.Tag computed found) = reasons.TagMismatch
reason_of faults.Padding = reasons.Padding
reason_of faults.Plain = reasons.Plain

-- nothing is wrong with a payload, and `out` begins with what was sealed, of so many bytes; or this is wrong
abbrev pub JudgesAs : List ℕ → ℕ → List ℕ → List ℕ → Result ℕ PayloadFault → Type 0
JudgesAs key levels bytes out (Ok n) = (wrong key levels bytes ≡ None) × (plain_in key bytes ≡ Some (take n out))
JudgesAs key levels bytes out (Err fault) = wrong key levels bytes ≡ Some (reason_of fault)
