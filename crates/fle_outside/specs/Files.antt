-- Named files, and what one read of a folder says, by its answer.
use Rattle.std.specs.Prelude.{◌≡◌, ℕ, ◌<◌, ◌≤◌, Option, Some, None, List, [], ◌∷◌, take, drop, length, nat_eq, nat_le}
use Rattle.std.specs.Prelude.{min, ◌-◌, cond, if◌then◌else◌, ◌++◌}
use denote.Ref.{Bor}
use Rattle.std.specs.Cmp.Lexicographic.{pointwise}
use Rattle.fle_outside.specs.Counts.{Rose}
use Rattle.fle_outside.specs.declared.answers.FileAnswer.{FileAnswer}
use Rattle.fle_outside.specs.declared.answers.FileAnswer.TheVariants as reads

-- names with bytes
abbrev pub Files : Type 0
Files = List (List ℕ × List ℕ)

-- the bytes of the file of a name, or none
abbrev pub file_of : Files → List ℕ → Option (List ℕ)
file_of [] name = None
file_of (f ∷ fs) name = cond (pointwise nat_eq f.0 name) (Some f.1) (file_of fs name)

-- a number of bytes is at least 1 and at most the piece's length
abbrev pub FileWithin : FileAnswer → ℕ → Type 0
FileWithin (reads.Took n) size = (0 < n) × (n ≤ size)
FileWithin reads.End size = Unit {0}
FileWithin reads.Missing size = Unit {0}
FileWithin reads.Failed size = Unit {0}

-- what is read at a place of a file that is there, or isn't
abbrev pub GivesAt : Option (List ℕ) → ℕ → FileAnswer → List ℕ → Type 0
GivesAt None at (reads.Took n) piece = ⊥
GivesAt None at reads.End piece = ⊥
GivesAt None at reads.Missing piece = Unit {0}
GivesAt (Some bytes) at (reads.Took n) piece =
    (at < length bytes) × (drop at bytes ≡ take n piece ++ drop n (drop at bytes))
GivesAt (Some bytes) at reads.End piece = length bytes ≤ at
GivesAt (Some bytes) at reads.Missing piece = ⊥
GivesAt file at reads.Failed piece = Unit {0}

-- the exact answer of a read that doesn't fail, into a piece of this size
abbrev pub answer_at : Option (List ℕ) → ℕ → ℕ → FileAnswer
answer_at None at size = reads.Missing
answer_at (Some bytes) at size = if nat_le (length bytes) at then reads.End else reads.Took
    (min size (length bytes - at))

-- a borrowed file is the one that was looked for
abbrev pub IsFile : Option (List ℕ) → Option (Bor (List ℕ)) → Type 0
IsFile found None = found ≡ None
IsFile found (Some bytes) = found ≡ Some bytes.now

-- a folder that tells its files answers from the file of that name
abbrev pub FileGives : Option Files → List ℕ → ℕ → FileAnswer → List ℕ → Type 0
FileGives None name at answer piece = Unit {0}
FileGives (Some files) name at answer piece = GivesAt (file_of files name) at answer piece

-- a folder that tells the names that it was asked for has this one before the others
abbrev pub FileAsked : Option (List (List ℕ)) → Option (List (List ℕ)) → List ℕ → Type 0
FileAsked None after name = after ≡ None
FileAsked (Some names) after name = after ≡ Some (name ∷ names)

-- the count of faults never falls, and a failure raises it
pub record FileCause (before now : ℕ) (answer : FileAnswer) : Type 0 where
  pub later : before ≤ now
  pub failed : answer ≡ reads.Failed → Rose before now
