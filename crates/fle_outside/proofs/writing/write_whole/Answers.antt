-- Each write takes one more front of what is left, or stops there.
use Rattle.fle_outside.proofs.PartWay.{part_took}
use Rattle.fle_outside.proofs.writing.write_whole.Goals as goal

pub loop-left-preserved : goal.loop-left-preserved
loop-left-preserved g c =
    rw c.split_at.ensures.back
    (part_took c.in-Took.n c.loop-left.invariant c.in-Took.ensures.bytes c.in-Took.ensures.within.1
    c.in-Took.ensures.cause.later c.in-Took.ensures.sure)
