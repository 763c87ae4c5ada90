use Rattle.std.proofs.Common.{◌≡◌, ◌<◌}
use Rattle.fle_bench.specs.Turns.{last, value_turns}
use Rattle.fle_bench.proofs.aead.seal_kept.Given as goal

abbrev pub invariant-loop-turn : goal.invariant-loop-turn
invariant-loop-turn l = record {
  fed : l.aad ≡ last 18 (value_turns l.fn.bytes l.fn.first l.plain l._turn);
  out : 0 < l._turn → l.out ≡ value_turns l.fn.bytes l.fn.first l.plain l._turn;
}
