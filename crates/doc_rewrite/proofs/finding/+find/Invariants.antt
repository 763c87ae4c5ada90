use Rattle.std.proofs.Common.{◌+◌, ◌*◌, ◌≤◌}
use Rattle.bson_tree.specs.Tree.{items_size, tree_size}
use Rattle.doc_rewrite.proofs.Telling.{Passing}
use Rattle.doc_rewrite.proofs.finding.+find.Given as goal

abbrev pub decreases-tell_item : goal.decreases-tell_item
decreases-tell_item g l = 2 * tree_size l.item.now.tree

abbrev pub decreases-tell_items : goal.decreases-tell_items
decreases-tell_items g l = 2 * items_size l.document.now.tree + 1

abbrev pub invariant-tell_items-loop-item : goal.invariant-tell_items-loop-item
invariant-tell_items-loop-item g l = record {
  size : items_size l.item-iterator.tree ≤ items_size l.document.tree;
  passing : Passing g.L.Listener.tells l.levels l.document l.item-iterator l.count l.told l.fn.listener l.listener;
}
