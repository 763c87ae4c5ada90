use Rattle.std.proofs.Common.{ap, arith, length}
use Rattle.std.proofs.lemmas.List.{length-drop}
use Rattle.doc_rewrite.proofs.sites.draws_of.Goals as goal

pub unreachable-requires : goal.unreachable-requires
unreachable-requires c = omega (
  arith,
  c.loop-i-test.true,
  c.len-i-end.ensures.count,
  ap length c.in-None.ensures.first,
  length-drop c.loop-i.i c.args.sites.now,
)
