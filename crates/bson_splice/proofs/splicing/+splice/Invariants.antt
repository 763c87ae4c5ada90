use Rattle.std.proofs.Common.{◌≡◌, ◌+◌, ◌*◌, ◌≤◌, length}
use Rattle.bson_tree.specs.Tree.{items_size, tree_size}
use Rattle.bson_splice.proofs.Going.{Going}
use Rattle.bson_splice.proofs.splicing.+splice.Given as goal

abbrev pub decreases-splice_document : goal.decreases-splice_document
decreases-splice_document g l = 3 * items_size l.document.now.tree + 1

abbrev pub decreases-splice_item : goal.decreases-splice_item
decreases-splice_item g l = 3 * tree_size l.item.now.tree

abbrev pub decreases-splice_items : goal.decreases-splice_items
decreases-splice_items g l = 3 * items_size l.document.now.tree

abbrev pub invariant-splice_items-loop-item : goal.invariant-splice_items-loop-item
invariant-splice_items-loop-item g l = record {
  size : items_size l.items.tree ≤ items_size l.document.tree;
  long : length l.out ≡ length l.fn.out;
  ready : g.P.Putter.ready l.putter;
  inside : l.end ≤ length l.out;
  going : Going g.P.Putter.puts g.P.Putter.spans l.document l.items l.fn.putter l.putter l.fn.out l.out l.at
      l.end;
}

abbrev pub decreases-splice_items-loop-item : goal.decreases-splice_items-loop-item
decreases-splice_items-loop-item g l = items_size l.items.tree
