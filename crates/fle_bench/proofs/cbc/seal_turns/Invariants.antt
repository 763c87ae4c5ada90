use Rattle.std.proofs.Common.{◌≡◌, ◌<◌}
use Rattle.fle_bench.specs.Turns.{last, sealed_turns}
use Rattle.fle_bench.proofs.cbc.seal_turns.Given as goal

abbrev pub invariant-loop-turn : goal.invariant-loop-turn
invariant-loop-turn g l = record {
  fed : l.iv ≡ last 16 (sealed_turns l.schedule l.fn.first l.plain l._turn);
  out : 0 < l._turn → l.out ≡ sealed_turns l.schedule l.fn.first l.plain l._turn;
}
