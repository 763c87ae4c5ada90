-- What is written so far of the elements, and how far each call goes down.
use Rattle.std.proofs.Common.{◌+◌, ◌*◌, [], ◌++◌}
use Rattle.fle_outside.proofs.PartWay.{PartWay}
use Rattle.ext_json.specs.Text.{elements_text, inside_text, value_text}
use Rattle.ext_json.proofs.pieces.+sent.Given as goal

abbrev pub decreases-send_inside : goal.decreases-send_inside
decreases-send_inside g l = 8 * l.levels

abbrev pub decreases-send_elements : goal.decreases-send_elements
decreases-send_elements g l = 8 * l.levels + 6

abbrev pub decreases-send_element : goal.decreases-send_element
decreases-send_element g l = 8 * l.levels + 5

abbrev pub decreases-send_long : goal.decreases-send_long
decreases-send_long g l = 8 * l.levels + 4

abbrev pub decreases-send_value : goal.decreases-send_value
decreases-send_value g l = 8 * l.levels + 3

abbrev pub invariant-send_elements-loop-item : goal.invariant-send_elements-loop-item
invariant-send_elements-loop-item g l =
    (goal.iterator-send_elements-loop-item g).can_next l.item-iterator ×
    (goal.iterator-send_elements-loop-item g).is_finite l.item-iterator ×
    PartWay (g.O.Sink.seen l.fn.out) (g.O.Sink.seen l.out)
    (elements_text (value_text (inside_text l.levels)) l.named [] l.document.tree)
    (l.piece.bytes.items ++ elements_text (value_text (inside_text l.levels)) l.named l.before l.item-iterator.tree)
