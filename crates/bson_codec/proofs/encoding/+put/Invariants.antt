-- What was written and what is left are all of the elements.
use Rattle.std.proofs.Common.{◌≡◌, ◌+◌, ◌*◌, ◌++◌, ◌≤◌, length}
use Rattle.bson_tree.specs.Tree.{tree_size, items_size, after}
use Rattle.bson_tree.specs.Spelling.{items_bytes}
use Rattle.bson_tree.specs.View.{tree}
use Rattle.bson_codec.proofs.encoding.+put.Given as goal

abbrev pub decreases-put_value : goal.decreases-put_value
decreases-put_value l = 2 * tree_size (tree l.value.now)

abbrev pub decreases-put_document : goal.decreases-put_document
decreases-put_document l = 2 * items_size l.kids.now + 1

abbrev pub decreases-put_items : goal.decreases-put_items
decreases-put_items l = 2 * items_size l.kids.now

abbrev pub invariant-put_items-loop-i : goal.invariant-put_items-loop-i
invariant-put_items-loop-i l = record {
  written : l.out.items ++ items_bytes (after l.i l.kids) ≡ l.fn.out.items ++ items_bytes l.kids;
  short : length (items_bytes (after l.i l.kids)) ≤ length (items_bytes l.kids);
  small : items_size (after l.i l.kids) ≤ items_size l.kids;
}
