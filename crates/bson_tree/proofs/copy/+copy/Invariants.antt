-- What was copied so far is the front of the list.
use Rattle.std.proofs.Common.{◌≡◌, take}
use Rattle.bson_tree.proofs.copy.+copy.Given as goal

abbrev pub invariant-copy_kids-loop-name : goal.invariant-copy_kids-loop-name
invariant-copy_kids-loop-name l = l.copies.items ≡ take l.name-index l.name-items
