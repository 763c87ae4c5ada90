use Rattle.std.proofs.Common.{◌≡◌, ◌<◌}
use Rattle.fle_bench.specs.Turns.{mac_turns, last}
use Rattle.fle_bench.proofs.hmac.fresh_turns.Given as goal

abbrev pub invariant-loop-turn : goal.invariant-loop-turn
invariant-loop-turn l = record {
  fed : l.block ≡ last 16 (mac_turns l.key l.fn.first l.text l._turn);
  mac : 0 < l._turn → l.mac ≡ mac_turns l.key l.fn.first l.text l._turn;
}
