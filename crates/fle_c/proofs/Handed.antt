-- The blocks that bytes are, one by one.
use Rattle.std.proofs.Common.{◌≡◌, ℕ, suc, ◌-◌, ◌/◌, ◌<◌, ◌≤◌, List, [], ◌∷◌, length, take, drop, sym, ap, ◌∙◌, arith}
use Rattle.std.proofs.Common.{length-drop}
use Rattle.fle_outside.specs.Blocks.{Block}
use Rattle.fle_c.specs.Blocks.{blocks_in, first_blocks}

one_more : (n : ℕ) → 16 ≤ n → n / 16 ≡ suc ((n - 16) / 16)
one_more n long = omega (arith, long)

none_in : (n : ℕ) → n < 16 → n / 16 ≡ 0
none_in n few = omega (arith, few)

-- 16 bytes and more begin with a block
pub first_in : (bytes : List ℕ) → 16 ≤ length bytes → blocks_in bytes ≡ take 16 bytes ∷ blocks_in (drop 16 bytes)
unfolding blocks_in
first_in bytes long =
    let count : length bytes / 16 ≡ suc (length (drop 16 bytes) / 16) =
    one_more (length bytes) long ∙ ap (λ (n : ℕ). suc (n / 16)) (sym (length-drop 16 bytes)) in
    ap (λ (n : ℕ). first_blocks n bytes) count

-- fewer are none
pub nothing_in : (bytes : List ℕ) → length bytes < 16 → blocks_in bytes ≡ []
unfolding blocks_in
nothing_in bytes few = ap (λ (n : ℕ). first_blocks n bytes) (none_in (length bytes) few)

-- the bytes in front are the first block, and those behind it are the others
pub parted : (bytes first rest block : List ℕ) → 16 ≤ length bytes → first ≡ take 16 bytes → rest ≡ drop 16 bytes
    → block ≡ first → blocks_in bytes ≡ block ∷ blocks_in rest
parted bytes first rest block long front back same =
    first_in bytes long ∙ ap (λ (b : Block). b ∷ blocks_in (drop 16 bytes)) (sym (same ∙ front))
    ∙ ap (λ (bs : List ℕ). block ∷ blocks_in bs) (sym back)
