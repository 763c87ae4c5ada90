-- The elements that were read and those of what is left are those of all the bytes.
use Rattle.std.proofs.Common.{◌≡◌, ◌+◌, ◌*◌, length}
use Rattle.bson_codec.specs.Reading.{elements_at, inside_at}
use Rattle.bson_codec.proofs.Rounds.{with_front}
use Rattle.bson_codec.proofs.decoding.+read.Given as goal

abbrev pub decreases-value_of : goal.decreases-value_of
decreases-value_of l = 5 * l.levels + 1

abbrev pub decreases-first_of : goal.decreases-first_of
decreases-first_of l = 5 * l.levels + 2

abbrev pub decreases-elements_of : goal.decreases-elements_of
decreases-elements_of l = 5 * l.levels + 3

abbrev pub decreases-framed_of : goal.decreases-framed_of
decreases-framed_of l = 5 * l.levels + 4

abbrev pub decreases-inside_of : goal.decreases-inside_of
decreases-inside_of l = 5 * l.levels

abbrev pub invariant-elements_of-loop-rest : goal.invariant-elements_of-loop-rest
invariant-elements_of-loop-rest l = record {
  place : l.p + length l.rest ≡ l.at + length l.bytes;
  read : with_front l.kids (elements_at (inside_at l.levels) l.p l.rest)
      ≡ elements_at (inside_at l.levels) l.at l.bytes;
}

abbrev pub decreases-elements_of-loop-rest : goal.decreases-elements_of-loop-rest
decreases-elements_of-loop-rest l = length l.rest
