use Rattle.std.proofs.Common.{◌≡◌}
use Rattle.encrypt_schema.specs.Language.Values.{all_values}
use Rattle.clear_commands.specs.ClearVerdicts.{is_word}
use Rattle.clear_commands.proofs.values.are_words.Given as goal

abbrev pub invariant-loop-item : goal.invariant-loop-item
invariant-loop-item l = all_values is_word l.item-iterator.tree ≡ all_values is_word l.document.tree
