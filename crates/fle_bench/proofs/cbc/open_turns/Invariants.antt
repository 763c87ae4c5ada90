use Rattle.std.proofs.Common.{◌≡◌, ◌<◌}
use Rattle.cbc_mode.specs.Cbc.{cbc_opened}
use Rattle.fle_bench.proofs.cbc.open_turns.Given as goal

abbrev pub invariant-loop-turn : goal.invariant-loop-turn
invariant-loop-turn g l = 0 < l._turn → l.out ≡ cbc_opened l.schedule l.fn.iv l.sealed
