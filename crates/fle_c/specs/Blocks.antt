-- Random blocks that a caller hands in as bytes.
use Rattle.std.specs.Prelude.{ℕ, zero, suc, ◌/◌, Some, List, [], ◌∷◌, length, take, drop}
use Rattle.fle_outside.specs.Blocks.{Block}
use Rattle.fle_outside.specs.Seen.{EntropySeen}

-- the first so many blocks of 16 bytes
abbrev pub first_blocks : ℕ → List ℕ → List Block
first_blocks zero bytes = []
first_blocks (suc n) bytes = take 16 bytes ∷ first_blocks n (drop 16 bytes)

-- the blocks of 16 bytes that these bytes are; what is behind the last whole one is none
unfoldable pub blocks_in : List ℕ → List Block
blocks_in bytes = first_blocks (length bytes / 16) bytes

-- a source of these blocks, which gives each for certain
abbrev pub handed_seen : List ℕ → ℕ → EntropySeen
handed_seen bytes faults = record {
  told = Some (blocks_in bytes);
  faults = faults;
  assured = length (blocks_in bytes);
}
