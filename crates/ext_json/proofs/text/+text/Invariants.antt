use Rattle.std.proofs.Common.{◌+◌, ◌*◌, []}
use Rattle.fle_outside.proofs.PartWay.{PartWay}
use Rattle.ext_json.specs.Text.{elements_text, inside_text, value_text}
use Rattle.ext_json.proofs.text.+text.Given as goal

abbrev pub decreases-put_element : goal.decreases-put_element
decreases-put_element g l = 8 * l.levels + 5

abbrev pub decreases-put_elements : goal.decreases-put_elements
decreases-put_elements g l = 8 * l.levels + 6

abbrev pub decreases-put_inside : goal.decreases-put_inside
decreases-put_inside g l = 8 * l.levels

abbrev pub decreases-put_value : goal.decreases-put_value
decreases-put_value g l = 8 * l.levels + 4

abbrev pub decreases-put_leaf : goal.decreases-put_leaf
decreases-put_leaf g l = 8 * l.levels + 3

abbrev pub decreases-put_scope : goal.decreases-put_scope
decreases-put_scope g l = 8 * l.levels + 1

abbrev pub invariant-put_elements-loop-item : goal.invariant-put_elements-loop-item
invariant-put_elements-loop-item g l =
    (goal.iterator-put_elements-loop-item g).can_next l.item-iterator ×
    (goal.iterator-put_elements-loop-item g).is_finite l.item-iterator ×
    PartWay (g.O.Sink.seen l.fn.out) (g.O.Sink.seen l.out)
    (elements_text (value_text (inside_text l.levels)) l.named [] l.document.tree)
    (elements_text (value_text (inside_text l.levels)) l.named l.before l.item-iterator.tree)
