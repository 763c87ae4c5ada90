use Rattle.std.proofs.Common.{◌≡◌, ◌<◌}
use Rattle.std.specs.Prelude.{IfSome}
use Rattle.fle_bench.specs.Vaults.{rewrapped_by}
use Rattle.fle_bench.proofs.rewrapping.rewrap_turns.Given as goal

abbrev pub invariant-loop-turn : goal.invariant-loop-turn
invariant-loop-turn l =
    0 < l._turn → IfSome l.file (λ file. file.items ≡ rewrapped_by l.from l.to l.vault l.bytes)
