use Rattle.std.proofs.Common.{◌≡◌}
use Rattle.encrypt_schema.specs.Language.Values.{all_values}
use Rattle.clear_commands.specs.ClearVerdicts.{is_flat}
use Rattle.clear_commands.proofs.values.are_flat.Given as goal

abbrev pub invariant-loop-item : goal.invariant-loop-item
invariant-loop-item l = all_values is_flat l.item-iterator.tree ≡ all_values is_flat l.document.tree
