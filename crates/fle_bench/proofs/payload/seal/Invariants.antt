use Rattle.std.proofs.Common.{◌≡◌, ◌<◌}
use Rattle.fle_vectors.specs.declared.data_key.TheConstants.{DATA_KEY}
use Rattle.fle_bench.specs.Turns.{last, payload_turns}
use Rattle.fle_bench.specs.declared.payload.TheConstants.{KEY_ID, IV}
use Rattle.fle_bench.proofs.payload.seal.Given as goal

abbrev pub invariant-loop-turn : goal.invariant-loop-turn
invariant-loop-turn l = record {
  fed : l.id ≡ last 16 (payload_turns l.algorithm DATA_KEY KEY_ID 5 IV l.plain l._turn);
  out : 0 < l._turn → l.out ≡ payload_turns l.algorithm DATA_KEY KEY_ID 5 IV l.plain l._turn;
}
