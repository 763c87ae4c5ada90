-- The elements that are left have the first one that holds the offset.
use Rattle.std.proofs.Common.{◌≡◌, ◌+◌}
use Rattle.bson_tree.specs.Tree.{count}
use Rattle.bson_codec.specs.Borrowed.{holding}
use Rattle.bson_codec.proofs.borrowed.RawDoc.child_holding.Given as goal

abbrev pub invariant-loop-item : goal.invariant-loop-item
invariant-loop-item l = record {
  found : holding l.at l.number l.item-iterator.start l.item-iterator.tree
      ≡ holding l.at 0 (l.self.start + 4) l.self.tree;
  number : l.number + count l.item-iterator.tree ≡ count l.self.tree;
}
