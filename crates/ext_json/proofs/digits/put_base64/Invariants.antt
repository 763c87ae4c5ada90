use Rattle.std.proofs.Common.{length}
use Rattle.base64.specs.Engines.{standard}
use Rattle.base64.specs.GeneralPurpose.{encode_of}
use Rattle.fle_outside.proofs.PartWay.{PartWay}
use Rattle.ext_json.proofs.digits.put_base64.Given as goal

abbrev pub invariant-loop-left : goal.invariant-loop-left
invariant-loop-left g l = PartWay (g.O.Sink.seen l.fn.out) (g.O.Sink.seen l.out) (encode_of standard l.bytes)
    (encode_of standard l.left)

abbrev pub decreases-loop-left : goal.decreases-loop-left
decreases-loop-left g l = length l.left
