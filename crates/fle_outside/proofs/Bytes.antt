-- A block from what the type of an array of 16 bytes says.
use Rattle.std.proofs.Common.{◌≡◌, ℕ, ◌<◌, List, length, get_or}
use Rattle.std.proofs.lemmas.List.Elements.{All-from_get_or}
use Rattle.fle_outside.specs.Blocks.{IsBlock}

-- 16 numbers below 256 are a block
pub block_from : (b : List ℕ) → length b ≡ 16 → ((i : ℕ) → get_or b i 0 < 256) → IsBlock b
block_from b long small = record {
  len = long;
  bytes = All-from_get_or (λ x. x < 256) b 0 (λ i _. small i);
}
