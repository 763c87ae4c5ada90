-- What one write into a sink says, by its answer.
use Rattle.std.specs.Prelude.{◌≡◌, ℕ, ◌+◌, ◌<◌, ◌≤◌, Option, Some, None, List, ◌++◌, take}
use Rattle.fle_outside.specs.Counts.{Rose}
use Rattle.fle_outside.specs.declared.answers.WriteAnswer.{WriteAnswer}
use Rattle.fle_outside.specs.declared.answers.WriteAnswer.TheVariants as writes

-- a number of bytes is at least 1 and at most the piece's length
abbrev pub WriteWithin : WriteAnswer → ℕ → Type 0
WriteWithin (writes.Took n) size = (0 < n) × (n ≤ size)
WriteWithin writes.Failed size = Unit {0}

-- a sink that tells what it took has gained the front of the piece, or nothing by a failure
abbrev pub WriteTakes : Option (List ℕ) → Option (List ℕ) → WriteAnswer → List ℕ → Type 0
WriteTakes None after answer piece = after ≡ None
WriteTakes (Some bytes) after (writes.Took n) piece = after ≡ Some (bytes ++ take n piece)
WriteTakes (Some bytes) after writes.Failed piece = after ≡ Some bytes

-- the count of faults never falls, and a failure raises it
pub record WriteCause (before now : ℕ) (answer : WriteAnswer) : Type 0 where
  pub later : before ≤ now
  pub failed : answer ≡ writes.Failed → Rose before now

-- the number of assured bytes falls by no more than was taken, and none was left where the sink failed
abbrev pub WriteAssured : ℕ → ℕ → WriteAnswer → Type 0
WriteAssured before after (writes.Took n) = before ≤ after + n
WriteAssured before after writes.Failed = before ≡ 0
