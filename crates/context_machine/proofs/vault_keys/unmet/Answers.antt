-- The next need is appended, unless it is met.
use Rattle.std.proofs.Common.{◌∙◌}
use Rattle.context_machine.proofs.Unmet.{next_unmet}
use Rattle.context_machine.proofs.vault_keys.unmet.Goals as goal

pub loop-n-preserved : goal.loop-n-preserved
loop-n-preserved c =
    next_unmet c.args.keys.now c.args.needs.now c.loop-n.n-index _ c.loop-n-test.true c.is_met.result _ _ _
    c.is_met.ensures.met c.in_ok-put_unless.ensures.put c.loop-n.invariant
