use Rattle.std.proofs.Common.{◌≡◌, ◌↔◌}
use Rattle.cbc_mode.proofs.Differences.{EndsTo}
use Rattle.cbc_mode.proofs.padding.ends_in.Given as goal

abbrev pub invariant-loop-i : goal.invariant-loop-i
invariant-loop-i l = record { ends : (l.differences ≡ 0) ↔ EndsTo l.fn.block l.fn.n l.fn.value l.i }
