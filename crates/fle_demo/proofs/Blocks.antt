-- The blocks of the demo's generator: their number, those of the key, and the next one.
use Rattle.std.proofs.Common.{◌≡◌, ◌∙◌, ◌+◌, ◌-◌, ◌<◌, ℕ, zero, suc, List, ◌∷◌, ◌++◌, length, drop, take, refl, sym, ap}
use Rattle.std.proofs.Common.{arith}
use Rattle.std.proofs.Common.{length-append}
use Rattle.std.proofs.Math.Seq.{drop-append_seam, take-append_seam}
use Rattle.fle_outside.specs.Blocks.{Block}
use Rattle.fle_demo.specs.Generator.{after_two, block_behind, blocks_behind}

pub blocks_count : (n x : ℕ) → length (blocks_behind n x) ≡ n
blocks_count zero x = refl
blocks_count (suc n) x = omega (arith, blocks_count n (after_two x))

-- where blocks are left, there is a first
pub some_block : (n x : ℕ) → 0 < n → blocks_behind n x ≡ block_behind x ∷ blocks_behind (n - 1) (after_two x)
some_block n x some =
    let more : n ≡ suc (n - 1) = omega (arith, some) in
    ap (λ (m : ℕ). blocks_behind m x) more

-- and one fewer behind it
pub one_fewer : (n x m y : ℕ) → 0 < n → blocks_behind m y ≡ blocks_behind (n - 1) (after_two x) → m + 1 ≡ n
one_fewer n x m y some is =
    omega (arith, some, blocks_count m y, blocks_count (n - 1) (after_two x), ap length is)

-- eight blocks that were drawn are the first eight
pub first_eight : (drawn others all : List Block) → length drawn ≡ 8 → all ≡ drawn ++ others → take 8 all ≡ drawn
first_eight drawn others all eight is =
    ap (λ (n : ℕ). take n all) (sym eight) ∙ (ap (take (length drawn)) is ∙ take-append_seam drawn others)

pub behind_eight : (drawn others all : List Block) → length drawn ≡ 8 → all ≡ drawn ++ others → drop 8 all ≡ others
behind_eight drawn others all eight is =
    ap (λ (n : ℕ). drop n all) (sym eight) ∙ (ap (drop (length drawn)) is ∙ drop-append_seam drawn others)

pub eight_fewer : (n x m y : ℕ) (drawn others : List Block) → length drawn ≡ 8 → blocks_behind n x ≡ drawn ++ others
    → blocks_behind m y ≡ others → m + 8 ≡ n
eight_fewer n x m y drawn others eight is left =
    omega (
      arith,
      eight,
      length-append drawn others,
      blocks_count n x,
      blocks_count m y,
      ap length is,
      ap length left,
    )
