use Rattle.std.proofs.Common.{◌≤◌, ◌-◌, length}
use Rattle.ext_json.proofs.Zeros.{ZeroStep}
use Rattle.ext_json.proofs.parts.zero_position.Given as goal

abbrev pub invariant-loop-n : goal.invariant-loop-n
invariant-loop-n l = (l.n ≤ length l.bytes) × ZeroStep l.bytes l.n

abbrev pub decreases-loop-n : goal.decreases-loop-n
decreases-loop-n l = length l.bytes - l.n
