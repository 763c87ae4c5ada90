use Rattle.std.proofs.Common.{◌+◌, ◌*◌, ◌≤◌, drop}
use Rattle.bson_tree.specs.Tree.{items_size, tree_size}
use Rattle.doc_rewrite.proofs.Judged.{Left}
use Rattle.command_tests.proofs.rewrite.standing.+stand.Given as goal

abbrev pub decreases-stand_at : goal.decreases-stand_at
decreases-stand_at l = 2 * tree_size l.item.now.tree

abbrev pub decreases-stand_inside : goal.decreases-stand_inside
decreases-stand_inside l = 2 * items_size l.document.now.tree + 1

abbrev pub invariant-stand_inside-loop-item : goal.invariant-stand_inside-loop-item
invariant-stand_inside-loop-item l = record {
  size : items_size l.item-iterator.tree ≤ items_size l.document.tree;
  left : Left l.document l.item-iterator (drop l.next l.sites) (drop l.here l.sites);
}
