-- What one read of a source says, by its answer.
use Rattle.std.specs.Prelude.{◌≡◌, ℕ, ◌+◌, ◌-◌, ◌^◌, ◌<◌, ◌≤◌, min, Option, Some, None, List, [], ◌++◌, take, drop}
use Rattle.fle_outside.specs.Counts.{Rose}
use Rattle.fle_outside.specs.declared.answers.ReadAnswer.{ReadAnswer}
use Rattle.fle_outside.specs.declared.answers.ReadAnswer.TheVariants as reads

-- a number of bytes is at least 1 and at most the piece's length
abbrev pub ReadWithin : ReadAnswer → ℕ → Type 0
ReadWithin (reads.Took n) size = (0 < n) × (n ≤ size)
ReadWithin reads.End size = Unit {0}
ReadWithin reads.Failed size = Unit {0}

-- a source that tells what it has left hands out the next bytes, ends exactly where none is left, and loses none by a
-- failure
abbrev pub ReadTakes : Option (List ℕ) → Option (List ℕ) → ReadAnswer → List ℕ → Type 0
ReadTakes None after answer piece = after ≡ None
ReadTakes (Some bytes) after (reads.Took n) piece =
    (bytes ≡ take n piece ++ drop n bytes) × (after ≡ Some (drop n bytes))
ReadTakes (Some bytes) after reads.End piece = (bytes ≡ []) × (after ≡ Some bytes)
ReadTakes (Some bytes) after reads.Failed piece = after ≡ Some bytes

-- the bytes that a source handed out so far, up to the last number
abbrev pub taken_by : ℕ → ReadAnswer → ℕ
taken_by taken (reads.Took n) = min (taken + n) (2 ^ 64 - 1)
taken_by taken reads.End = taken
taken_by taken reads.Failed = taken

-- the count of faults never falls, and a failure raises it
pub record ReadCause (before now : ℕ) (answer : ReadAnswer) : Type 0 where
  pub later : before ≤ now
  pub failed : answer ≡ reads.Failed → Rose before now
