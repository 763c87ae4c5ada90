use Rattle.std.proofs.Common.{arith, rules}
use Rattle.cbc_mode.specs.Padding.{pad}
use Rattle.cbc_mode.proofs.Padded.{length-pad}
use Rattle.cbc_mode.proofs.Chained.{seal_begin, seal_step, seal_end}
use Rattle.cbc_mode.proofs.sealing.cbc_seal_into.Goals as goal

pub loop-i-init : goal.loop-i-init
loop-i-init g c = seal_begin _ _ _ _ (omega (arith, length-pad c.args.plain.now))

pub loop-i-preserved : goal.loop-i-preserved
loop-i-preserved g c =
    let i = c.loop-i.i in
    let sealed = rw (c.xored-mixed.ensures.sum, c.padded_block.ensures.block) at c.seal_block-sealed.ensures in
    seal_step c.args.schedule.now _ i c.loop-i.before (pad c.args.plain.now) c.loop-i.out _ c.put.new.out _
    c.loop-i-test.true sealed c.put.ensures.put (omega arith) (search rules) c.loop-i.invariant

pub returns : goal.returns
returns g c = record {
  sealed = seal_end c.args.schedule.now _ c.loop-i.i c.loop-i.before (pad c.args.plain.now) c.loop-i.out _
      c.loop-i-test.false (omega arith) c.loop-i.invariant;
}
