use Rattle.std.proofs.Common.{◌<◌}
use Rattle.fle_vectors.specs.declared.data_key.TheConstants.{DATA_KEY}
use Rattle.fle_bench.specs.Payload.{IsOpened}
use Rattle.fle_bench.proofs.payload.open.Given as goal

abbrev pub invariant-loop-turn : goal.invariant-loop-turn
invariant-loop-turn l = 0 < l._turn → IsOpened DATA_KEY l.payload l.out
