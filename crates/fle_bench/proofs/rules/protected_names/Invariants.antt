use Rattle.std.proofs.Common.{◌≡◌, ◌+◌, ◌<◌, ◌^◌}
use Rattle.bson_tree.specs.Tree.{count}
use Rattle.fle_bench.specs.Protected.{protected_names}
use Rattle.fle_bench.proofs.rules.protected_names.Given as goal

abbrev pub invariant-loop-item : goal.invariant-loop-item
invariant-loop-item l = record {
  few : l.names + count l.item-iterator.tree < 2 ^ 31;
  counted : l.names + protected_names l.rows l.item-iterator.tree ≡ protected_names l.rows l.document.tree;
}
