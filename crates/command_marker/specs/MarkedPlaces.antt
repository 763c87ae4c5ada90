-- MongoDB Client Side Encryption, marked commands, by places: which marking stands at a place
use Rattle.std.specs.Prelude.{ℕ, List, Option, Some, None, option_map, option_and_then}
use Rattle.bson_tree.specs.Tree.{Tree, Items}
use Rattle.bson_tree.specs.Places.{value_at}
use Rattle.encrypt_schema.specs.Commands.Chains.{station_at, targets_at}
use Rattle.encrypt_schema.specs.Commands.Pointers.{nth_target}
use Rattle.encrypt_schema.specs.Language.Policies.{policy_at}
use Rattle.encrypt_schema.specs.Language.Row.{Row}
use Rattle.encrypt_schema.specs.Commands.Stations.{Station, Store, Compare}
use Rattle.payload6.specs.Needs.{Need, need_by}
use Rattle.command_marker.specs.Marking.{marked_value, or_nameless}

-- the number of the rule under which a place of this station is protected; none where it isn't
abbrev pub rule_of : Station → Option ℕ
rule_of (Store i) = Some i
rule_of (Compare i) = Some i
rule_of _ = None

-- what names the key of a rule at a place of a command: its id, or the text to which its pointer leads in the stored
-- document around the place
abbrev pub need_at : List Row → Items → List ℕ → ℕ → Option Need
need_at rows c place i =
    need_by (policy_at i rows).key (option_map (λ t. t.text) (nth_target i (targets_at rows 0 c place)))

-- the marking of the value at a place of a command, under the rule that protects it; none where none does
abbrev pub marking_of : List Row → Items → List ℕ → Option Tree
marking_of rows c place =
    option_and_then
    (λ i. option_map (marked_value (policy_at i rows).algorithm (or_nameless (need_at rows c place i)))
    (value_at place c))
    (option_and_then rule_of (station_at rows c place))
