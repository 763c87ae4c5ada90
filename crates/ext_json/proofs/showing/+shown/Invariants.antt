use Rattle.std.proofs.Common.{◌≡◌, ◌+◌, ◌*◌, []}
use Rattle.fle_outside.proofs.PartWay.{PartWay}
use Rattle.ext_json.specs.BadText.{elements_bad, inside_bad}
use Rattle.ext_json.specs.Showing.{separator}
use Rattle.ext_json.specs.Text.{elements_text, inside_text, value_text}
use Rattle.ext_json.proofs.showing.+shown.Given as goal

abbrev pub decreases-show_inside : goal.decreases-show_inside
decreases-show_inside g l = 8 * l.levels

abbrev pub decreases-show_elements : goal.decreases-show_elements
decreases-show_elements g l = 8 * l.levels + 6

abbrev pub decreases-show_element : goal.decreases-show_element
decreases-show_element g l = 8 * l.levels + 5

abbrev pub decreases-show_value : goal.decreases-show_value
decreases-show_value g l = 8 * l.levels + 4

abbrev pub invariant-show_elements-loop-item : goal.invariant-show_elements-loop-item
invariant-show_elements-loop-item g l =
    (goal.iterator-show_elements-loop-item g).can_next l.item-iterator ×
    (goal.iterator-show_elements-loop-item g).is_finite l.item-iterator ×
    (elements_bad (inside_bad l.levels) l.item-iterator.start l.item-iterator.tree
    ≡ elements_bad (inside_bad l.levels) (l.document.start + 4) l.document.tree) ×
    PartWay (g.O.Sink.seen l.fn.out) (g.O.Sink.seen l.out)
    (elements_text (value_text (inside_text l.levels)) l.named [] l.document.tree)
    (elements_text (value_text (inside_text l.levels)) l.named (separator l.first) l.item-iterator.tree)
