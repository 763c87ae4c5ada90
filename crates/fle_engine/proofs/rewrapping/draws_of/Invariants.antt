use Rattle.std.proofs.Common.{◌≡◌, ◌≤◌, ◌+◌, drop}
use Rattle.rewrap_keys.specs.Rewrapped.{draws_of}
use Rattle.fle_engine.proofs.rewrapping.draws_of.Given as goal

abbrev pub invariant-loop-key : goal.invariant-loop-key
invariant-loop-key l = record {
  few : l.draws ≤ l.key-index;
  counted : l.draws + draws_of (drop l.key-index l.keys) ≡ draws_of l.keys;
}
