-- MongoDB Client Side Encryption, marking replies: the markings of a result, whose fields may stand in any
-- order
use Rattle.std.specs.Prelude.{ℕ, Bool, List, ◌∷◌, Option, option_map, option_and_then, if◌then◌else◌}
use Rattle.std.specs.List.{list_any}
use Rattle.bson_tree.specs.Tree.{Tree, Items}
use Rattle.bson_tree.specs.Spelling.{doc_bytes}
use Rattle.bson_tree.specs.Places.{value_at}
use Rattle.bson_tree.specs.Filled.{filled}
use Rattle.encrypt_schema.specs.Commands.Chains.{station_at}
use Rattle.encrypt_schema.specs.Language.Policies.{policy_at}
use Rattle.encrypt_schema.specs.Language.Row.{Row}
use Rattle.payload6.specs.Marking.{binary, marking_fields}
use Rattle.command_marker.specs.MarkedPlaces.{need_at, rule_of}
use Rattle.command_marker.specs.Marking.{or_nameless}
use Rattle.reply_check.specs.Orders.{orders}
use Rattle.reply_check.specs.Same.{is_same_tree}

-- a marking with these fields: a binary of subtype 06 that holds 00 and their document
abbrev pub marking_with : Items → Tree
marking_with fields = binary 6 (0 ∷ doc_bytes fields)

-- a value is a marking with these fields, in whatever order they stand
unfoldable pub is_marking : Items → Tree → Bool
is_marking fields u = list_any (λ js. is_same_tree u (marking_with js)) (orders fields)

-- such a marking with its fields in their order; any other value as it is
abbrev pub in_order : Items → Tree → Tree
in_order fields u = if is_marking fields u then marking_with fields else u

-- the fields of the marking of the value at a place of a command, in their order, under the rule that protects it; none
-- where none does
abbrev pub fields_of : List Row → Items → List ℕ → Option Items
fields_of rows c place =
    option_and_then
    (λ i. option_map (marking_fields (policy_at i rows).algorithm (or_nameless (need_at rows c place i)))
    (value_at place c))
    (option_and_then rule_of (station_at rows c place))

-- what is read at a protected place of a command in its result
abbrev pub ordering : List Row → Items → Items → List ℕ → Option Tree
ordering rows c d place =
    option_and_then (λ fields. option_map (in_order fields) (value_at place d)) (fields_of rows c place)

-- a result with the fields of each marking at a protected place of the command in their order
unfoldable pub ordered : List Row → Items → Items → Items
ordered rows c d = filled (ordering rows c d) d
