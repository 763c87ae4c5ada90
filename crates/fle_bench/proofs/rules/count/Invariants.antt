use Rattle.std.proofs.Common.{◌≡◌, ◌<◌}
use Rattle.fle_bench.specs.Protected.{protected_names}
use Rattle.fle_bench.proofs.rules.count.Given as goal

abbrev pub invariant-loop-turn : goal.invariant-loop-turn
invariant-loop-turn l = 0 < l._turn → l.names ≡ protected_names l.rows l.document.tree
