-- Random blocks: what one draw says, and what was drawn of those to come.
use Rattle.std.specs.Prelude.{◌≡◌, ℕ, ◌+◌, ◌<◌, ◌≤◌, Option, Some, None, Result, Ok, Err, List, ◌∷◌, length}
use Rattle.std.specs.List.{All}
use Rattle.fle_outside.specs.Counts.{Rose}
use Rattle.fle_outside.specs.declared.answers.Failed.{Failed}

abbrev pub Block : Type 0
Block = List ℕ

-- a block is 16 bytes
pub record IsBlock (block : Block) : Type 0 where
  pub len : length block ≡ 16
  pub bytes : All (λ b. b < 256) block

-- each of them has 16 bytes
abbrev pub AreBlocks : List Block → Type 0
AreBlocks blocks = All IsBlock blocks

-- a draw takes the first of the blocks to come off, where they are told, and none by a failure
abbrev pub DrawTakes : Option (List Block) → Option (List Block) → Result Block Failed → Type 0
DrawTakes None after answer = after ≡ None
DrawTakes (Some blocks) after (Ok block) = (rest : List Block) × (blocks ≡ block ∷ rest) × (after ≡ Some rest)
DrawTakes (Some blocks) after (Err _) = after ≡ Some blocks

-- the count of faults never falls, and a failure raises it
abbrev pub DrawCause : ℕ → ℕ → Result Block Failed → Type 0
DrawCause before now (Ok block) = before ≤ now
DrawCause before now (Err _) = (before ≤ now) × Rose before now

-- the number of assured blocks falls by at most one, and none was left where the draw failed
abbrev pub DrawAssured : ℕ → ℕ → Result Block Failed → Type 0
DrawAssured before after (Ok block) = before ≤ after + 1
DrawAssured before after (Err _) = before ≡ 0
