-- Blocks drawn one after another, and what is made of them.
use Rattle.std.proofs.Common.{◌≡◌, ◌∙◌, ℕ, zero, suc, ◌+◌, ◌≤◌, Some, None, Option, Result, Ok, Err, List, [], ◌∷◌}
use Rattle.std.proofs.Common.{◌++◌, length, refl, sym, ap, subst, arith, length-append}
use Rattle.std.specs.Prelude.{IfOk}
use Rattle.fle_outside.proofs.Drawings.{draws_then, kept, taken}
use Rattle.fle_outside.specs.Blocks.{Block, AreBlocks, IsBlock, DrawTakes, DrawCause, DrawAssured}
use Rattle.fle_outside.specs.Seen.{EntropySeen}
use Rattle.fle_outside.specs.declared.answers.Failed.{Failed}
use Rattle.local_kms.specs.Drawn.{Made, FellShort, Makes}
use Rattle.local_kms.specs.Made.{block_at, two_blocks, six_blocks, seeds, seeds_of}

only_block : (block : Block) → IsBlock block → AreBlocks (block ∷ [])
only_block block is zero d lt = is
only_block block is (suc k) d lt = absurd (omega (arith, lt))

-- one block
pub one_made : (before after : EntropySeen) (result : Result Block Failed) → DrawTakes before.told after.told result
    → DrawCause before.faults after.faults result → DrawAssured before.assured after.assured result
    → IfOk result IsBlock → Makes before after 1 (block_at 0) result
one_made before after (Ok block) takes cause sure is = record {
  blocks = block ∷ [];
  number = refl;
  draws = record {
    blocks = only_block block is;
    first = taken before.told after.told block takes;
    later = cause;
    falls = sure;
  };
  is = refl;
}
one_made before after (Err fault) takes cause sure is = record {
  blocks = [];
  fewer = omega arith;
  draws = record {
    blocks = λ k d lt. absurd (omega (arith, lt));
    first = λ all told. (all, refl, kept before.told after.told fault takes all told);
    later = cause.0;
    falls = omega (arith, sure);
  };
  rose = cause.1;
}

-- a draw that fails after others
pub short_then : {A : Type 0} (before mid after : EntropySeen) (m n k : ℕ) (make : List Block → A) (made : A)
    → Made before mid m make made
    → FellShort mid after n → m + n ≤ k → FellShort before after k
short_then before mid after m n k make made first short room = record {
  blocks = first.blocks ++ short.blocks;
  fewer = omega (arith, room, first.number, short.fewer, length-append first.blocks short.blocks);
  draws = draws_then first.draws short.draws;
  rose = omega (arith, first.draws.later, short.rose);
}

-- fewer blocks than these are fewer than more
pub short_more : (before after : EntropySeen) (n k : ℕ) → FellShort before after n → n ≤ k → FellShort before after k
short_more before after n k short room = record {
  blocks = short.blocks;
  fewer = omega (arith, room, short.fewer);
  draws = short.draws;
  rose = short.rose;
}

one_of : (bs : List Block) → length bs ≡ 1 → bs ≡ block_at 0 bs ∷ []
one_of [] e = absurd (omega (arith, e))
one_of (x ∷ []) e = refl
one_of (x ∷ (y ∷ bs)) e = absurd (omega (arith, e))

two_of : (bs : List Block) → length bs ≡ 2 → bs ≡ block_at 0 bs ∷ (block_at 1 bs ∷ [])
two_of [] e = absurd (omega (arith, e))
two_of (x ∷ bs) e = ap (λ (ys : List Block). x ∷ ys) (one_of bs (omega (arith, e)))

two_at : (xs ys : List Block) → length xs ≡ 1 → length ys ≡ 1 → block_at 0 xs ++ block_at 0 ys ≡ two_blocks 0 (xs ++ ys)
two_at xs ys e f = subst (λ (zs : List Block). block_at 0 xs ++ block_at 0 ys ≡ two_blocks 0 (zs ++ ys))
    (sym (one_of xs e)) refl

-- two blocks
pub two_made : (a b c : EntropySeen) (x y : Block) (part : List ℕ) → Made a b 1 (block_at 0) x
    → Made b c 1 (block_at 0) y
    → part ≡ x ++ y → Made a c 2 (two_blocks 0) part
two_made a b c x y part first second is = record {
  blocks = first.blocks ++ second.blocks;
  number = omega (arith, first.number, second.number, length-append first.blocks second.blocks);
  draws = draws_then first.draws second.draws;
  is =
      is ∙ ap (λ (z : List ℕ). z ++ y) first.is ∙ ap (λ (z : List ℕ). block_at 0 first.blocks ++ z) second.is
      ∙ two_at first.blocks second.blocks first.number second.number;
}

six_at : (xs ys zs : List Block) → length xs ≡ 2 → length ys ≡ 2
    → two_blocks 0 xs ++ (two_blocks 0 ys ++ two_blocks 0 zs) ≡ six_blocks 0 (xs ++ (ys ++ zs))
six_at xs ys zs e f =
    subst (λ (us : List Block). two_blocks 0 xs ++ (two_blocks 0 ys ++ two_blocks 0 zs)
    ≡ six_blocks 0 (us ++ (ys ++ zs))) (sym (two_of xs e))
    (subst (λ (us : List Block). two_blocks 0 xs ++ (two_blocks 0 ys ++ two_blocks 0 zs)
    ≡ six_blocks 0 (block_at 0 xs ∷ (block_at 1 xs ∷ (us ++ zs)))) (sym (two_of ys f)) refl)

-- six blocks
pub six_made : (a b c d : EntropySeen) (p q r key : List ℕ) → Made a b 2 (two_blocks 0) p → Made b c 2 (two_blocks 0) q
    → Made c d 2 (two_blocks 0) r → key ≡ p ++ (q ++ r) → Made a d 6 (six_blocks 0) key
six_made a b c d p q r key first second third is = record {
  blocks = first.blocks ++ (second.blocks ++ third.blocks);
  number = omega (
    arith,
    first.number,
    second.number,
    third.number,
    length-append first.blocks (second.blocks ++ third.blocks),
    length-append second.blocks third.blocks,
  );
  draws = draws_then first.draws (draws_then second.draws third.draws);
  is =
      is ∙ ap (λ (z : List ℕ). z ++ (q ++ r)) first.is
      ∙ ap (λ (z : List ℕ). two_blocks 0 first.blocks ++ (z ++ r)) second.is
      ∙ ap (λ (z : List ℕ). two_blocks 0 first.blocks ++ (two_blocks 0 second.blocks ++ z)) third.is
      ∙ six_at first.blocks second.blocks third.blocks first.number second.number;
}

six_of : (bs : List Block) → length bs ≡ 6
    → bs ≡ block_at 0 bs ∷ (block_at 1 bs ∷ (block_at 2 bs ∷ (block_at 3 bs ∷ (block_at 4 bs ∷ (block_at 5 bs ∷ [])))))
six_of [] e = absurd (omega (arith, e))
six_of (a ∷ []) e = absurd (omega (arith, e))
six_of (a ∷ (b ∷ [])) e = absurd (omega (arith, e))
six_of (a ∷ (b ∷ (c ∷ []))) e = absurd (omega (arith, e))
six_of (a ∷ (b ∷ (c ∷ (d ∷ bs)))) e =
    ap (λ (ys : List Block). a ∷ (b ∷ (c ∷ (d ∷ ys)))) (two_of bs (omega (arith, e)))

eight_at : (xs ys zs : List Block) → length xs ≡ 1 → length ys ≡ 6
    → seeds_of (block_at 0 xs) (six_blocks 0 ys) (block_at 0 zs) ≡ seeds (xs ++ (ys ++ zs))
eight_at xs ys zs e f =
    subst (λ (us : List Block). seeds_of (block_at 0 xs) (six_blocks 0 ys) (block_at 0 zs) ≡ seeds (us ++ (ys ++ zs)))
    (sym (one_of xs e))
    (subst (λ (us : List Block). seeds_of (block_at 0 xs) (six_blocks 0 ys) (block_at 0 zs)
    ≡ seeds (block_at 0 xs ∷ (us ++ zs))) (sym (six_of ys f)) refl)

-- eight blocks, the first and the last by themselves
pub eight_made : (a b c d : EntropySeen) (x : Block) (key : List ℕ) (y : Block) → Made a b 1 (block_at 0) x
    → Made b c 6 (six_blocks 0) key
    → Made c d 1 (block_at 0) y → Made a d 8 seeds (record { id = x; key = key; iv = y })
eight_made a b c d x key y first middle last = record {
  blocks = first.blocks ++ (middle.blocks ++ last.blocks);
  number = omega (
    arith,
    first.number,
    middle.number,
    last.number,
    length-append first.blocks (middle.blocks ++ last.blocks),
    length-append middle.blocks last.blocks,
  );
  draws = draws_then first.draws (draws_then middle.draws last.draws);
  is =
      ap (λ (z : List ℕ). seeds_of z key y) first.is
      ∙ ap (λ (z : List ℕ). seeds_of (block_at 0 first.blocks) z y) middle.is
      ∙ ap (λ (z : List ℕ). seeds_of (block_at 0 first.blocks) (six_blocks 0 middle.blocks) z) last.is
      ∙ eight_at first.blocks middle.blocks last.blocks first.number middle.number;
}
