-- A front of the bytes is written, and `left` is what is left of them.
use Rattle.std.proofs.Common.{length}
use Rattle.fle_outside.proofs.PartWay.{PartWay}
use Rattle.fle_outside.proofs.writing.write_whole.Given as goal

abbrev pub invariant-loop-left : goal.invariant-loop-left
invariant-loop-left g l = PartWay (g.O.Sink.seen l.fn.out) (g.O.Sink.seen l.out) l.bytes l.left

abbrev pub decreases-loop-left : goal.decreases-loop-left
decreases-loop-left g l = length l.left
