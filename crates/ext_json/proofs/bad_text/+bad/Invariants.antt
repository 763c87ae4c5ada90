use Rattle.std.proofs.Common.{◌≡◌, ◌+◌, ◌*◌}
use Rattle.ext_json.specs.BadText.{elements_bad, inside_bad}
use Rattle.ext_json.proofs.bad_text.+bad.Given as goal

abbrev pub decreases-bad_inside : goal.decreases-bad_inside
decreases-bad_inside l = 8 * l.levels

abbrev pub decreases-bad_elements : goal.decreases-bad_elements
decreases-bad_elements l = 8 * l.levels + 6

abbrev pub decreases-bad_element : goal.decreases-bad_element
decreases-bad_element l = 8 * l.levels + 5

abbrev pub decreases-bad_value : goal.decreases-bad_value
decreases-bad_value l = 8 * l.levels + 4

abbrev pub decreases-bad_leaf : goal.decreases-bad_leaf
decreases-bad_leaf l = 8 * l.levels + 3

abbrev pub decreases-is_bad : goal.decreases-is_bad
decreases-is_bad l = 8 * l.levels + 2

abbrev pub decreases-is_bad_scope : goal.decreases-is_bad_scope
decreases-is_bad_scope l = 8 * l.levels + 1

abbrev pub invariant-bad_elements-loop-item : goal.invariant-bad_elements-loop-item
invariant-bad_elements-loop-item l =
    (goal.iterator-bad_elements-loop-item).can_next l.item-iterator ×
    (goal.iterator-bad_elements-loop-item).is_finite l.item-iterator ×
    (elements_bad (inside_bad l.levels) l.item-iterator.start l.item-iterator.tree
    ≡ elements_bad (inside_bad l.levels) (l.document.start + 4) l.document.tree)
