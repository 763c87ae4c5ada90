-- The parts before this one are written, and the others are left.
use Rattle.std.proofs.Common.{drop}
use Rattle.fle_outside.specs.Writing.{joined}
use Rattle.fle_outside.proofs.PartWay.{PartWay}
use Rattle.fle_outside.proofs.writing.put_parts.Given as goal

abbrev pub invariant-loop-part : goal.invariant-loop-part
invariant-loop-part g l = PartWay (g.O.Sink.seen l.fn.out) (g.O.Sink.seen l.out) (joined l.parts)
    (joined (drop l.part-index l.parts))
