use Rattle.std.proofs.Common.{◌≡◌, ◌+◌, ◌*◌, ◌∙◌, arith, refl}
use Rattle.cbc_mode.proofs.Chained.{open_begin, open_end}
use Rattle.cbc_mode.proofs.opening.open_blocks.Goals as goal

pub loop-i-init : goal.loop-i-init
loop-i-init g c = record { so_far = open_begin _ _ _ _ (omega arith); behind = refl }

pub loop-i-preserved : goal.loop-i-preserved
loop-i-preserved g c = record {
  so_far =
      let next : 2 * (c.loop-i.i + 1) ≡ 2 * c.loop-i.i + 2 = omega arith in
      rw next (c.open_pair-next.ensures.opened _ _ (omega arith) c.loop-i.invariant.so_far);
  behind = c.open_pair-next.ensures.behind ∙ c.loop-i.invariant.behind;
}

pub returns-else-count-eq1-clause-opened : goal.returns-else-count-eq1-clause-opened
returns-else-count-eq1-clause-opened g c =
    open_end c.args.schedule.now _ (2 * c.loop-i.i) _ c.loop-i.before c.args.sealed.now c.loop-i.out _
    (omega arith) (omega arith) c.loop-i.invariant.so_far
