-- Each turn so far counted an error, and took no byte.
use Rattle.std.proofs.Common.{◌≡◌, ◌+◌, ◌-◌, ◌^◌, ◌<◌, ◌≤◌, min}
use Rattle.fle_outside.proofs.streams.StdinSource.read_some.Given as goal

abbrev pub invariant-loop-turn : goal.invariant-loop-turn
invariant-loop-turn g l = record {
  taken : l.self.taken ≡ l.fn.self.taken;
  later : l.fn.self.faults ≤ l.self.faults;
  rose : 0 < l._turn → min (l.fn.self.faults + 1) (2 ^ 64 - 1) ≤ l.self.faults;
}
