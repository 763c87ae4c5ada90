use Rattle.std.proofs.Common.{◌≡◌, ◌+◌, drop}
use Rattle.context_machine.specs.Asks.{room_for}
use Rattle.context_machine.specs.Needs.{needs_seen}
use Rattle.context_machine.specs.declared.keys_asked.Choice.TheVariants as choices
use Rattle.context_machine.proofs.keys_asked.are_few.Given as goal

abbrev pub invariant-loop-n : goal.invariant-loop-n
invariant-loop-n l = l.left + (room_for choices.Ids (needs_seen l.needs) + room_for choices.Names (needs_seen l.needs))
    ≡ 1073741824 + (room_for choices.Ids (needs_seen (drop l.n-index l.needs))
    + room_for choices.Names (needs_seen (drop l.n-index l.needs)))
