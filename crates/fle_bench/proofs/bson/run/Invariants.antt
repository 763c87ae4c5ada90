use Rattle.std.proofs.Common.{◌≡◌, ◌<◌}
use Rattle.std.specs.Prelude.{is_ok}
use Rattle.bson_codec.specs.Reading.{document}
use Rattle.fle_bench.proofs.bson.run.Given as goal

abbrev pub invariant-loop-turn : goal.invariant-loop-turn
invariant-loop-turn l = 0 < l._turn → l.right ≡ is_ok (document l.document)
