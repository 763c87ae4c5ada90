-- Each turn so far counted an error.
use Rattle.std.proofs.Common.{◌+◌, ◌-◌, ◌^◌, ◌<◌, ◌≤◌, min}
use Rattle.fle_outside.proofs.system_folder.OpenedFile.read_on.Given as goal

abbrev pub invariant-loop-turn : goal.invariant-loop-turn
invariant-loop-turn g l = record {
  later : l.fn.faults ≤ l.faults;
  rose : 0 < l._turn → min (l.fn.faults + 1) (2 ^ 64 - 1) ≤ l.faults;
}
