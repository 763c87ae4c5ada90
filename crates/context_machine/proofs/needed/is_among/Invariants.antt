use Rattle.std.proofs.Common.{◌≡◌, drop}
use Rattle.payload6.specs.Needs.{need_seen}
use Rattle.context_machine.specs.Needs.{is_needed, needs_seen}
use Rattle.context_machine.proofs.needed.is_among.Given as goal

abbrev pub invariant-loop-n : goal.invariant-loop-n
invariant-loop-n l = is_needed (need_seen l.need) (needs_seen (drop l.n-index l.needs))
    ≡ is_needed (need_seen l.need) (needs_seen l.needs)
