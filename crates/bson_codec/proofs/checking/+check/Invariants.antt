-- The faults of what is left are those of all the bytes.
use Rattle.std.proofs.Common.{◌≡◌, ◌+◌, ◌*◌, length}
use Rattle.bson_codec.specs.Reading.{elements_at, inside_at, fault_of}
use Rattle.bson_codec.proofs.checking.+check.Given as goal

abbrev pub decreases-check_inside : goal.decreases-check_inside
decreases-check_inside l = 7 * l.levels

abbrev pub decreases-scope_length : goal.decreases-scope_length
decreases-scope_length l = 7 * l.levels + 1

abbrev pub decreases-raw_length : goal.decreases-raw_length
decreases-raw_length l = 7 * l.levels + 2

abbrev pub decreases-check_laid : goal.decreases-check_laid
decreases-check_laid l = 7 * l.levels + 3

abbrev pub decreases-check_first : goal.decreases-check_first
decreases-check_first l = 7 * l.levels + 4

abbrev pub decreases-check_elements : goal.decreases-check_elements
decreases-check_elements l = 7 * l.levels + 5

abbrev pub decreases-check_framed : goal.decreases-check_framed
decreases-check_framed l = 7 * l.levels + 6

abbrev pub invariant-check_elements-loop-rest : goal.invariant-check_elements-loop-rest
invariant-check_elements-loop-rest l = record {
  place : l.p + length l.rest ≡ l.at + length l.bytes;
  read : fault_of (elements_at (inside_at l.levels) l.p l.rest)
      ≡ fault_of (elements_at (inside_at l.levels) l.at l.bytes);
}

abbrev pub decreases-check_elements-loop-rest : goal.decreases-check_elements-loop-rest
decreases-check_elements-loop-rest l = length l.rest
