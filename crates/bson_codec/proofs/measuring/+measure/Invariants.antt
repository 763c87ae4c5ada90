-- What was measured and what is left are the whole, and the whole is spelled exactly where what is left is.
use Rattle.std.proofs.Common.{◌≡◌, ◌+◌, ◌*◌, ◌≤◌, length}
use Rattle.bson_tree.specs.Tree.{tree_size, items_size, after}
use Rattle.bson_tree.specs.Spelling.{items_bytes}
use Rattle.bson_tree.specs.View.{tree}
use Rattle.bson_codec.specs.Layout.{AreElements, IsItems}
use Rattle.bson_codec.proofs.measuring.+measure.Given as goal

abbrev pub decreases-measure_value : goal.decreases-measure_value
decreases-measure_value l = 3 * tree_size (tree l.value.now)

abbrev pub decreases-measure_document : goal.decreases-measure_document
decreases-measure_document l = 3 * items_size l.kids.now + 1

abbrev pub decreases-measure_items : goal.decreases-measure_items
decreases-measure_items l = 3 * items_size l.kids.now

abbrev pub decreases-measure_element : goal.decreases-measure_element
decreases-measure_element l = 3 * tree_size (tree l.value.now) + 1

abbrev pub invariant-measure_items-loop-i : goal.invariant-measure_items-loop-i
invariant-measure_items-loop-i l = record {
  within : l.sum ≤ l.room;
  size : l.sum + length (items_bytes (after l.i l.kids)) ≡ length (items_bytes l.kids);
  small : items_size (after l.i l.kids) ≤ items_size l.kids;
  front : AreElements (IsItems l.levels) (after l.i l.kids) → AreElements (IsItems l.levels) l.kids;
  back : AreElements (IsItems l.levels) l.kids → AreElements (IsItems l.levels) (after l.i l.kids);
}
