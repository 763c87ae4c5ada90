use Rattle.std.proofs.Common.{◌≡◌}
use Rattle.data_key.specs.Values.{are_strings}
use Rattle.data_key.proofs.values.are_strings.Given as goal

abbrev pub invariant-loop-item : goal.invariant-loop-item
invariant-loop-item l = are_strings l.item-iterator.tree ≡ are_strings l.document.tree
