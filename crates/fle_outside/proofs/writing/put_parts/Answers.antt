-- Each part is written whole, or not.
use Rattle.std.proofs.Common.{drop, ◌+◌}
use Rattle.fle_outside.specs.Writing.{joined}
use Rattle.fle_outside.proofs.PartWay.{part_put, part_put_stop, joined_at}
use Rattle.fle_outside.proofs.writing.put_parts.Goals as goal

pub returns-in-Err : goal.returns-in-Err
returns-in-Err g c = record {
  wrote = part_put_stop (joined (drop (c.loop-part.part-index + 1) c.args.parts.now)) c.loop-part.invariant
      (joined_at c.loop-part.part-index c.args.parts.now _ c.loop-part-test.true) c.in-Err.ensures.wrote;
}

pub loop-part-preserved : goal.loop-part-preserved
loop-part-preserved g c = part_put c.loop-part.invariant
    (joined_at c.loop-part.part-index c.args.parts.now _ c.loop-part-test.true) c.in-Ok.ensures.wrote
