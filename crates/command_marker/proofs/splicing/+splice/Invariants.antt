use Rattle.std.proofs.Common.{◌≡◌, ◌+◌, ◌*◌, ◌≤◌, ◌++◌, drop}
use Rattle.bson_tree.specs.Spelling.{items_bytes}
use Rattle.bson_tree.specs.Tree.{items_size, tree_size}
use Rattle.command_marker.specs.Splices.{left, spliced}
use Rattle.command_marker.specs.Marked.{marked_by}
use Rattle.command_marker.proofs.splicing.+splice.Given as goal

abbrev pub decreases-put_document : goal.decreases-put_document
decreases-put_document l = 3 * items_size l.document.now.tree + 1

abbrev pub decreases-put_item : goal.decreases-put_item
decreases-put_item l = 3 * tree_size l.item.now.tree

abbrev pub decreases-put_items : goal.decreases-put_items
decreases-put_items l = 3 * items_size l.document.now.tree

abbrev pub invariant-put_items-loop-item : goal.invariant-put_items-loop-item
invariant-put_items-loop-item l = record {
  size : items_size l.items.tree ≤ items_size l.document.tree;
  made : l.out.items ++ items_bytes (spliced (marked_by l.rows l.command) l.items.start
      (drop l.behind l.marks) l.items.tree)
      ≡ l.fn.out.items ++ items_bytes (spliced (marked_by l.rows l.command) (l.document.start + 4)
      (drop l.next l.marks) l.document.tree);
  rests : left l.items.start (drop l.behind l.marks) l.items.tree
      ≡ left (l.document.start + 4) (drop l.next l.marks) l.document.tree;
}

abbrev pub decreases-put_items-loop-item : goal.decreases-put_items-loop-item
decreases-put_items-loop-item l = items_size l.items.tree
