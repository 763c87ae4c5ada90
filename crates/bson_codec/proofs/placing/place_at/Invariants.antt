-- The place is below the numbers so far, in the document that is reached; each turn goes into a smaller one.
use Rattle.std.proofs.Common.{◌≡◌, ◌+◌}
use Rattle.bson_tree.specs.Tree.{items_size}
use Rattle.bson_codec.proofs.Ways.{spot_from, below}
use Rattle.bson_tree.specs.Places.{place_of}
use Rattle.bson_codec.proofs.placing.place_at.Given as goal

abbrev pub invariant-loop-number : goal.invariant-loop-number
invariant-loop-number l = place_of l.at l.document.tree
    ≡ below l.steps.items (spot_from l.at 0 (l.inner.start + 4) l.inner.tree)

abbrev pub decreases-loop-number : goal.decreases-loop-number
decreases-loop-number l = items_size l.inner.tree
