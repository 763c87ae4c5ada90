use Rattle.std.proofs.Common.{◌≡◌, ◌+◌}
use Rattle.clear_commands.specs.ClearVerdicts.{elements_refusal}
use Rattle.clear_commands.proofs.inside.judge_elements.Given as goal

abbrev pub invariant-loop-item : goal.invariant-loop-item
invariant-loop-item l = elements_refusal l.document l.item-iterator.start l.item-iterator.tree
    ≡ elements_refusal l.document (l.inside.start + 4) l.inside.tree
