use Rattle.std.proofs.Common.{◌≡◌, drop}
use Rattle.context_machine.specs.Slots.{is_one_free}
use Rattle.context_machine.proofs.slots.Slots.is_one_free.Given as goal

abbrev pub invariant-loop-name : goal.invariant-loop-name
invariant-loop-name l = is_one_free l.self (drop l.name-index l.names) ≡ is_one_free l.self l.names
