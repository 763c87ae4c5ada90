use Rattle.cbc_mode.proofs.Differences.{ends_next}
use Rattle.cbc_mode.proofs.padding.ends_in.Goals as goal

pub loop-i-preserved : goal.loop-i-preserved
loop-i-preserved c = record {
  ends =
      ends_next c.args.block c.args.n c.args.value c.loop-i.i c.loop-i.differences c.from-differences.result
      c.from-differences.ensures.behind c.from-differences.ensures.before c.loop-i.invariant.ends;
}
