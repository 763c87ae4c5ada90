use Rattle.std.proofs.Common.{length}
use Rattle.ext_json.specs.Quoted.{escaped}
use Rattle.fle_outside.proofs.PartWay.{PartWay}
use Rattle.ext_json.proofs.quoted.put_escaped.Given as goal

abbrev pub invariant-loop-left : goal.invariant-loop-left
invariant-loop-left g l = PartWay (g.O.Sink.seen l.fn.out) (g.O.Sink.seen l.out) (escaped l.text) (escaped l.left)

abbrev pub decreases-loop-left : goal.decreases-loop-left
decreases-loop-left g l = length l.left
