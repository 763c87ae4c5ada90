-- What contracts see of each object of the outside; what a sink gained, and what was drawn of random blocks.
use Rattle.std.specs.Prelude.{◌≡◌, ℕ, ◌+◌, ◌≤◌, Bool, Option, Some, List, ◌++◌, length}
use Rattle.std.specs.List.{All, Contains}
use Rattle.fle_outside.specs.Files.{Files}
use Rattle.fle_outside.specs.Blocks.{Block, IsBlock}

-- a source: the bytes that are left, where it tells them; the bytes that it handed out, told or not, up to 2^64 - 1;
-- the calls that failed; that it never fails
pub record SourceSeen : Type 0 where
  pub told : Option (List ℕ)
  pub taken : ℕ
  pub faults : ℕ
  pub assured : Bool

-- a folder: its files by their names, where it tells them; the names that it was asked for, the last one first, where
-- it tells them; the calls that failed; that it never fails
pub record FolderSeen : Type 0 where
  pub told : Option Files
  pub asked : Option (List (List ℕ))
  pub faults : ℕ
  pub assured : Bool

-- a folder was asked for files of these names alone, as far as it tells for which
pub record AsksOnly (names : List (List ℕ)) (before after : FolderSeen) : Type 0 where
  pub among : (earlier : List (List ℕ)) → before.asked ≡ Some earlier
      → (more : List (List ℕ)) × (after.asked ≡ Some (more ++ earlier)) × All (Contains names) more

-- a sink: the bytes that it took, where it tells them; the calls that failed; the number of bytes that it takes for
-- certain
pub record SinkSeen : Type 0 where
  pub told : Option (List ℕ)
  pub faults : ℕ
  pub assured : ℕ

-- where the sink tells what it took, it took these bytes
abbrev pub Gains : Option (List ℕ) → Option (List ℕ) → List ℕ → Type 0
Gains before after bytes = (w : List ℕ) → before ≡ Some w → after ≡ Some (w ++ bytes)

-- a source of random blocks: those to come, where it tells them; the calls that failed; the number of blocks that it
-- gives for certain
pub record EntropySeen : Type 0 where
  pub told : Option (List Block)
  pub faults : ℕ
  pub assured : ℕ

-- these blocks were drawn: where the object tells its blocks, they are the first of those to come
pub record Draws (before after : EntropySeen) (drawn : List Block) : Type 0 where
  pub blocks : All IsBlock drawn
  pub first : (all : List Block) → before.told ≡ Some all
      → (rest : List Block) × (all ≡ drawn ++ rest) × (after.told ≡ Some rest)
  pub later : before.faults ≤ after.faults
  pub falls : before.assured ≤ after.assured + length drawn
