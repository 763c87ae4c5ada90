-- Without an info no key is waited for.
use Rattle.std.proofs.Common.{ap}
use Rattle.context_machine.specs.Kept.{Wants}
use Rattle.context_machine.proofs.Waits.{unmarked_waits}
use Rattle.context_machine.proofs.need_markings.wait.Goals as goal

pub new-requires : goal.new-requires
new-requires c = record {
  waiting = unmarked_waits c.again.result c.none-wanted.result (ap (λ (w : Wants). w.needs) c.none-wanted.ensures.none);
}
