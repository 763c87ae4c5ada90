-- The reply of a marking service: two flags, the command with its markings, and `ok`
use Rattle.std.specs.Prelude.{◌≡◌, ℕ, ◌<◌, ◌≤◌, Bool, false, not, ◌&&◌, nat_lt, List, [], ◌∷◌, codes, length, Result}
use Rattle.std.specs.Prelude.{Ok, Err, Vec, if◌then◌else◌}
use Rattle.std.specs.Global.{Global}
use Rattle.bson_tree.specs.Tree.{Tree, Items, leaf, node, no_items, item}
use Rattle.bson_tree.specs.Spelling.{doc_bytes}
use Rattle.encrypt_schema.specs.Language.Row.{Row}
use Rattle.encrypt_schema.specs.Commands.Visits.{roles}
use Rattle.fle_outside.specs.Limits.{output_limit}
use Rattle.command_marker.specs.declared.stop.ReplyFault.{ReplyFault}
use Rattle.command_marker.specs.declared.stop.ReplyFault.TheVariants as faults
use Rattle.command_marker.specs.Commands.{passes}
use Rattle.command_marker.specs.Marked.{marked}

abbrev pub flag : Bool → Tree
flag set = leaf 8 ((if set then 1 else 0) ∷ [])

-- the double 1.0 (IEEE 754, little-endian)
abbrev pub one : Tree
one = leaf 1 (0 ∷ 0 ∷ 0 ∷ 0 ∷ 0 ∷ 0 ∷ 240 ∷ 63 ∷ [])

-- `{hasEncryptionPlaceholders: .., schemaRequiresEncryption: .., result: .., ok: 1.0}`
unfoldable pub reply_fields : Bool → Bool → Items → Items
reply_fields marked ruled command =
    item (codes "hasEncryptionPlaceholders") (flag marked)
    (item (codes "schemaRequiresEncryption") (flag ruled)
    (item (codes "result") (node 3 command)
    (item (codes "ok") one no_items)))

-- the reply's bytes (BSON 1.1)
abbrev pub reply : Bool → Bool → Items → List ℕ
reply marked ruled command = doc_bytes (reply_fields marked ruled command)

-- the second flag: rules concern a command, which are there, where it doesn't pass unchanged
abbrev pub is_ruled : List Row → Items → Bool
is_ruled rows c = nat_lt 0 (length rows) && not (passes c)

-- the reply to a command under these rules: whether a value is marked, whether rules concern it, the marked command
unfoldable pub reply_to : List Row → Items → List ℕ
reply_to rows c = reply (nat_lt 0 (length (roles rows 0 c))) (is_ruled rows c) (marked rows c)

-- the reply to a command that no rule concerns
unfoldable pub reply_clear_to : Items → List ℕ
reply_clear_to c = reply false false c

-- the most bytes that a reply may have
abbrev pub reply_limit : ℕ
reply_limit = output_limit

-- these are the bytes of the reply, or it has too many; memory may run out at any time
abbrev pub RepliesAs : List ℕ → Result (Vec ℕ Global) ReplyFault → Type 0
RepliesAs bytes (Ok reply) = (reply.items ≡ bytes) × (length bytes ≤ reply_limit)
RepliesAs bytes (Err faults.TooLong) = reply_limit < length bytes
RepliesAs bytes (Err faults.Memory) = Unit {0}
