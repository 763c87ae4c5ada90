use Rattle.std.proofs.Common.{◌≡◌, ◌++◌}
use Rattle.data_key.specs.Values.{texts}
use Rattle.data_key.proofs.reading.copy_strings.Given as goal

abbrev pub invariant-loop-item : goal.invariant-loop-item
invariant-loop-item l = l.names ++ texts l.item-iterator.tree ≡ texts l.array.tree
