use Rattle.std.proofs.Common.{◌≡◌, ◌≤◌, ◌+◌, drop, map}
use Rattle.std.specs.Prelude.{string_bytes}
use Rattle.fle_words.specs.Words.{times}
use Rattle.fle_words.proofs.names.times.Given as goal

abbrev pub invariant-loop-other : goal.invariant-loop-other
invariant-loop-other l = record {
  few : l.n ≤ l.other-index;
  all : l.n + times l.name (map string_bytes (drop l.other-index l.names)) ≡ times l.name (map string_bytes l.names);
}
