use Rattle.std.proofs.Common.{◌≡◌, ◌+◌, ◌*◌, ◌≤◌, length}
use Rattle.bson_tree.specs.Tree.{items_size, tree_size}
use Rattle.doc_rewrite.specs.Keys.{key_by_id}
use Rattle.doc_rewrite.specs.Opened.{ring_of}
use Rattle.doc_rewrite.proofs.Opens.{Going}
use Rattle.doc_rewrite.proofs.opening.+open.Given as goal

abbrev pub decreases-open_document : goal.decreases-open_document
decreases-open_document g l = 3 * items_size l.document.now.tree + 1

abbrev pub decreases-open_item : goal.decreases-open_item
decreases-open_item g l = 3 * tree_size l.item.now.tree

abbrev pub decreases-open_items : goal.decreases-open_items
decreases-open_items g l = 3 * items_size l.document.now.tree

abbrev pub invariant-open_items-loop-item : goal.invariant-open_items-loop-item
invariant-open_items-loop-item g l = record {
  size : items_size l.item-iterator.tree ≤ items_size l.document.tree;
  long : length l.out ≡ length l.fn.out;
  going : Going (ring_of (key_by_id l.keys.ids)) l.levels l.document l.item-iterator l.fn.out l.out l.at l.end;
}
