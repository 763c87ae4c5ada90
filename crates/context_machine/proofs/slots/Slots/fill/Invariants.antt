-- By then the slot of the id is filled, and those of the names gone through.
use Rattle.std.proofs.Common.{take}
use Rattle.context_machine.proofs.Filled.{FillsFront}
use Rattle.context_machine.proofs.slots.Slots.fill.Given as goal

abbrev pub invariant-loop-name : goal.invariant-loop-name
invariant-loop-name l = FillsFront l.fn.self l.self l.key.id (take l.name-index l.name-items) l.number
