-- The sum so far and the size of what is left are the size of the whole.
use Rattle.std.proofs.Common.{◌≡◌, ◌+◌, length, drop}
use Rattle.bson_tree.specs.Spelling.{items_bytes}
use Rattle.bson_tree.specs.View.{items_of}
use Rattle.bson_tree.proofs.size.+size.Given as goal

abbrev pub invariant-kids_size-loop-name : goal.invariant-kids_size-loop-name
invariant-kids_size-loop-name l =
    l.sum + length (items_bytes (items_of (drop l.name-index l.name-items))) ≡ length (items_bytes l.kids)
