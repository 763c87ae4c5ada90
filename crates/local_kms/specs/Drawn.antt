-- What is made of random blocks.
use Rattle.std.specs.Prelude.{◌≡◌, ◌<◌, ℕ, List, length, Result, Ok, Err}
use Rattle.fle_outside.specs.Blocks.{Block}
use Rattle.fle_outside.specs.Counts.{Rose}
use Rattle.fle_outside.specs.Seen.{Draws, EntropySeen}
use Rattle.fle_outside.specs.declared.answers.Failed.{Failed}

-- so many blocks were drawn, and this was made of them
pub record Made {A : Type 0} (before after : EntropySeen) (count : ℕ) (make : List Block → A) (made : A) : Type 0 where
  pub blocks : List Block
  pub number : length blocks ≡ count
  pub draws : Draws before after blocks
  pub is : made ≡ make blocks

-- a draw failed: fewer blocks were drawn, and the count of faults rose
pub record FellShort (before after : EntropySeen) (count : ℕ) : Type 0 where
  pub blocks : List Block
  pub fewer : length blocks < count
  pub draws : Draws before after blocks
  pub rose : Rose before.faults after.faults

-- what the answer tells: all blocks were drawn, and it is made of them; or a draw failed
abbrev pub Makes : {A : Type 0} → EntropySeen → EntropySeen → ℕ → (List Block → A) → Result A Failed → Type 0
Makes before after count make (Ok made) = Made before after count make made
Makes before after count make (Err _) = FellShort before after count
