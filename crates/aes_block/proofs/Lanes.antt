-- Look-ups lane by lane.
use Rattle.std.proofs.Common.{◌≡◌, ℕ, suc, ◌+◌, ◌*◌, ◌/◌, ◌≤◌, Bool, true, false, cond, T, List, [], ◌∷◌, map, length}
use Rattle.std.proofs.Common.{get_or, ltb, leb, refl, ap, ◌∙◌, arith, w8, Fits}
use Rattle.std.specs.Prelude.{◌||◌, nat_lt, bit_xor}
use Rattle.std.proofs.lemmas.Bool.Decides.{nat_tests}
use Rattle.std.proofs.lemmas.Simd.{swz_l, SwzOk, SwzOk-from_Each1, map-map, zip2_of_maps}
use lib.Lanes.{zip2, Each1}
use Rattle.aes_block.specs.Nibbles.{entry, is_place, all_places}
use Rattle.aes_block.proofs.Computed.{passes_below, passes_at, first_true, second_true, both_true}
use Rattle.aes_block.proofs.Entries.{cons_equal}

entry_chosen : (a : ℕ) (j : ℕ) → cond (leb 128 j) 0 a ≡ cond (nat_lt j 128) a 0
entry_chosen a j = go (leb 128 j) (nat_lt j 128) refl refl
  where
    go : (s t : Bool) → leb 128 j ≡ s → nat_lt j 128 ≡ t → cond s 0 a ≡ cond t a 0
    go true true p q = absurd (grind (arith, nat_tests))
    go true false p q = refl
    go false true p q = refl
    go false false p q = absurd (grind (arith, nat_tests))

entry_at : (t : List ℕ) (i j : ℕ) → 16 * (i / 16) + j ≡ j
    → cond (leb 128 j) 0 (get_or t (16 * (i / 16) + j) 0) ≡ entry t j
entry_at t i j e = rw e (entry_chosen (get_or t j 0) j)

-- a shuffle of 16 lanes reads its table at each lane
pub shuffled : (t js : List ℕ) (i : ℕ) → i + length js ≤ 16 → swz_l w8 16 t i js ≡ map (entry t) js
shuffled t [] i h = refl
shuffled t (j ∷ js) i h = cons_equal (entry_at t i j (omega arith)) (shuffled t js (suc i) (omega arith))

place_ok : (j : ℕ) → is_place j ≡ true → T (leb 128 j || ltb j 16)
place_ok j h = go (leb 128 j || ltb j 16) refl
  where
    go : (s : Bool) → (leb 128 j || ltb j 16) ≡ s → T s
    go true p = tt
    go false p = absurd (grind (arith, nat_tests))

pub each_place : (js : List ℕ) → all_places js ≡ true → Each1 (λ j. T (leb 128 j || ltb j 16)) js
each_place [] h = tt
each_place (j ∷ js) h = (
  place_ok j (first_true (is_place j) (all_places js) h),
  each_place js (second_true (is_place j) (all_places js) h),
)

pub places_ok : (js : List ℕ) → length js ≡ 16 → all_places js ≡ true → SwzOk w8 16 16 0 js
places_ok js l h = SwzOk-from_Each1 w8 16 1 16 0 js refl (omega arith) (each_place js h)

-- bytes become places, if each of the 256 does
pub mapped_places : (f : ℕ → ℕ) → passes_below 256 (λ b. is_place (f b)) ≡ true → (x : List ℕ) → Each1 (Fits w8) x
    → all_places (map f x) ≡ true
mapped_places f h [] e = refl
mapped_places f h (b ∷ x) e = both_true (is_place (f b)) (all_places (map f x))
    (passes_at 256 (λ b. is_place (f b)) h b e.0.fits) (mapped_places f h x e.1)

pub looked_up : (t : List ℕ) (f : ℕ → ℕ) (x : List ℕ) {js r : List ℕ} → r ≡ map (entry t) js → js ≡ map f x
    → r ≡ map (λ b. entry t (f b)) x
looked_up t f x e g = e ∙ ap (map (entry t)) g ∙ map-map (entry t) f x

pub summed : (f g : ℕ → ℕ) (x : List ℕ) {a b : List ℕ} → a ≡ map f x → b ≡ map g x
    → zip2 bit_xor a b ≡ map (λ b. bit_xor (f b) (g b)) x
summed f g x e h = zip2_of_maps bit_xor f g x e h
