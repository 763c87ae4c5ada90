-- Knuth, "The Art of Computer Programming", volume 2, section 3.2.1: a linear congruential generator of 64 bits
use Rattle.std.specs.Prelude.{ℕ, zero, suc, ◌+◌, ◌*◌, ◌%◌, ◌^◌, List, [], ◌∷◌, ◌++◌, Some}
use Rattle.std.specs.Int.{to_le_bytes, w64}
use Rattle.fle_outside.specs.Blocks.{Block}
use Rattle.fle_outside.specs.Seen.{EntropySeen}

-- the number behind x, which is the next output too
unfoldable pub next_output : ℕ → ℕ
next_output x = (x * 6364136223846793005 + 1442695040888963407) % 2 ^ 64

-- the number behind two outputs
abbrev pub after_two : ℕ → ℕ
after_two x = next_output (next_output x)

-- two outputs, each as 8 bytes, lowest first
abbrev pub block_behind : ℕ → Block
block_behind x = to_le_bytes w64 (next_output x) ++ to_le_bytes w64 (after_two x)

-- the first n blocks
abbrev pub blocks_behind : ℕ → ℕ → List Block
blocks_behind zero x = []
blocks_behind (suc n) x = block_behind x ∷ blocks_behind n (after_two x)

-- what contracts of every source of blocks see of one that gives the first n of these blocks
abbrev pub generated : ℕ → ℕ → ℕ → EntropySeen
generated n x faults = record { told = Some (blocks_behind n x); faults = faults; assured = n }
