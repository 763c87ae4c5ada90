use Rattle.std.proofs.Common.{[], take}
use Rattle.context_machine.specs.Needs.{needs_seen}
use Rattle.context_machine.specs.Slots.{AreSlots}
use Rattle.context_machine.proofs.needed.add_slots.Given as goal

abbrev pub invariant-loop-n : goal.invariant-loop-n
invariant-loop-n l = AreSlots (needs_seen (take l.n-index l.needs)) [] l.slots
