-- One need more: its value is put where it stands in the list.
use Rattle.std.proofs.Common.{arith}
use Rattle.context_machine.proofs.Listed.{few_one, put_one, short_one, size_one}
use Rattle.context_machine.proofs.keys_asked.put_values.Goals as goal

pub put_one-requires : goal.put_one-requires
put_one-requires c =
    let inv = c.loop-n.invariant in
    record {
      count = omega (arith, inv.few, c.requires.room);
      short = short_one c.args.choice c.args.needs.now c.loop-n.n-index _ c.loop-n-test.true c.loop-n.i _ inv.few
          c.requires.room;
    }

pub loop-n-preserved : goal.loop-n-preserved
loop-n-preserved c =
    let choice = c.args.choice in
    let inv = c.loop-n.invariant in
    let one = c.in_ok-i.ensures in
    record {
      put = put_one choice c.args.needs.now c.loop-n.n-index _ c.loop-n-test.true c.loop-n.i _ c.loop-n.out.items _ _
          one.put one.next inv.put;
      size = size_one choice c.args.needs.now c.loop-n.n-index _ c.loop-n-test.true _ _ _ inv.size one.size;
      few = few_one choice c.args.needs.now c.loop-n.n-index _ c.loop-n-test.true _ _ _ inv.few one.next;
    }
