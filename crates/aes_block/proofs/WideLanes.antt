-- Look-ups in two blocks that stand side by side.
use Rattle.std.proofs.Common.{◌≡◌, ℕ, suc, ◌+◌, ◌*◌, ◌/◌, ◌≤◌, ◌<◌, Bool, true, false, cond, List, [], ◌∷◌, ◌++◌, map}
use Rattle.std.proofs.Common.{length, get_or, leb, refl, ap, ◌∙◌, arith, w8, inl, inr}
use Rattle.std.specs.Prelude.{nat_lt, bit_xor}
use Rattle.std.proofs.lemmas.Bool.{cases_lt}
use Rattle.std.proofs.lemmas.Bool.Decides.{nat_tests}
use Rattle.std.proofs.lemmas.List.{get_or-append_right}
use Rattle.std.proofs.Math.ListN.{get_or-append}
use Rattle.std.proofs.lemmas.Simd.{swz_l, SwzOk, SwzOk-from_Each1}
use lib.Lanes.{zip2, pick_l}
use Rattle.aes_block.specs.Nibbles.{entry, is_place, all_places}
use Rattle.aes_block.proofs.Computed.{first_true, second_true, both_true}
use Rattle.aes_block.proofs.Entries.{append_equal, cons_equal, sixteen}
use Rattle.aes_block.proofs.Lanes.{each_place}

-- the entry that a lane reads, if the vector has t's entries in its block
entry_read : (x t : List ℕ) (i j : ℕ) → (j < 16 → get_or x (16 * (i / 16) + j) 0 ≡ get_or t j 0) → is_place j ≡ true
    → cond (leb 128 j) 0 (get_or x (16 * (i / 16) + j) 0) ≡ entry t j
entry_read x t i j f h = go (leb 128 j) (nat_lt j 128) (nat_lt j 16) refl refl refl
  where
    go : (a b c : Bool) → leb 128 j ≡ a → nat_lt j 128 ≡ b → nat_lt j 16 ≡ c
        → cond a 0 (get_or x (16 * (i / 16) + j) 0) ≡ cond b (get_or t j 0) 0
    go true true c p q r = absurd (grind (arith, nat_tests))
    go true false c p q r = refl
    go false true true p q r = f (grind (arith, nat_tests))
    go false true false p q r = absurd (grind (arith, nat_tests))
    go false false c p q r = absurd (grind (arith, nat_tests))

-- a shuffle reads t at each lane, if the vector has t's entries in each block of 16 lanes that it reaches
shuffled_from : (x t js : List ℕ) (i n : ℕ)
    → ((p j : ℕ) → i ≤ p → p < n → j < 16 → get_or x (16 * (p / 16) + j) 0 ≡ get_or t j 0)
    → i + length js ≤ n → all_places js ≡ true → swz_l w8 16 x i js ≡ map (entry t) js
shuffled_from x t [] i n f l h = refl
shuffled_from x t (j ∷ js) i n f l h = cons_equal
    (entry_read x t i j (f i j (omega arith) (omega arith)) (first_true (is_place j) (all_places js) h))
    (shuffled_from x t js (suc i) n (λ p k a b c. f p k (omega arith) b c) (omega arith)
    (second_true (is_place j) (all_places js) h))

read_first : (a b : List ℕ) → length a ≡ 16 → (p j : ℕ) → p < 16 → j < 16
    → get_or (a ++ b) (16 * (p / 16) + j) 0 ≡ get_or a j 0
read_first a b l p j lp lj =
    let e : 16 * (p / 16) + j ≡ j = omega arith in
    rw e (get_or-append a b 0 j (omega arith))

read_second : (a b : List ℕ) → length a ≡ 16 → (p j : ℕ) → 16 ≤ p → p < 32 → j < 16
    → get_or (a ++ b) (16 * (p / 16) + j) 0 ≡ get_or b j 0
read_second a b l p j lp mp lj =
    get_or-append_right a b 16 (16 * (p / 16) + j) 0 l (omega arith)
    ∙ ap (λ k. get_or b k 0) (omega arith)

-- a table that stands there twice
pub shuffled_twice : (t js : List ℕ) → length t ≡ 16 → length js ≡ 32 → all_places js ≡ true
    → swz_l w8 16 (t ++ t) 0 js ≡ map (entry t) js
shuffled_twice t js l m h = shuffled_from (t ++ t) t js 0 32 read (omega arith) h
  where
    read : (p j : ℕ) → 0 ≤ p → p < 32 → j < 16 → get_or (t ++ t) (16 * (p / 16) + j) 0 ≡ get_or t j 0
    read p j z lp lj = elim (cases_lt p 16) [
      | inl below ↦ read_first t t l p j below lj
      | inr above ↦ read_second t t l p j (omega arith) lp lj
    ]

swz_l-append : (x js ks : List ℕ) (i : ℕ)
    → swz_l w8 16 x i (js ++ ks) ≡ swz_l w8 16 x i js ++ swz_l w8 16 x (i + length js) ks
swz_l-append x [] ks i = ap (λ n. swz_l w8 16 x n ks) (omega arith)
swz_l-append x (j ∷ js) ks i = cons_equal refl (swz_l-append x js ks (suc i)
    ∙ ap (λ n. swz_l w8 16 x (suc i) js ++ swz_l w8 16 x n ks) (omega arith))

-- two blocks at the same positions
pub shuffled_both : (a b js : List ℕ) → length a ≡ 16 → length b ≡ 16 → length js ≡ 16 → all_places js ≡ true
    → swz_l w8 16 (a ++ b) 0 (js ++ js) ≡ map (entry a) js ++ map (entry b) js
shuffled_both a b js la lb l h =
    swz_l-append (a ++ b) js js 0
    ∙ append_equal (shuffled_from (a ++ b) a js 0 16 (λ p j z lp lj. read_first a b la p j lp lj) (omega arith) h)
    (ap (λ n. swz_l w8 16 (a ++ b) n js) (omega arith)
    ∙ shuffled_from (a ++ b) b js 16 32 (λ p j z lp lj. read_second a b la p j z lp lj) (omega arith) h)

pub wide_places_ok : (js : List ℕ) → length js ≡ 32 → all_places js ≡ true → SwzOk w8 16 32 0 js
wide_places_ok js l h = SwzOk-from_Each1 w8 16 2 32 0 js refl (omega arith) (each_place js h)

pub places_of_two : (js ks : List ℕ) → all_places js ≡ true → all_places ks ≡ true → all_places (js ++ ks) ≡ true
places_of_two [] ks h g = g
places_of_two (j ∷ js) ks h g = both_true (is_place j) (all_places (js ++ ks))
    (first_true (is_place j) (all_places js) h)
    (places_of_two js ks (second_true (is_place j) (all_places js) h) g)

-- sums of two blocks
pub zip2-append : (a b c d : List ℕ) → length a ≡ length c
    → zip2 bit_xor (a ++ b) (c ++ d) ≡ zip2 bit_xor a c ++ zip2 bit_xor b d
zip2-append [] b [] d l = refl
zip2-append [] b (y ∷ c) d l = absurd (omega arith)
zip2-append (x ∷ a) b [] d l = absurd (omega arith)
zip2-append (x ∷ a) b (y ∷ c) d l = cons_equal refl (zip2-append a b c d (omega arith))

-- the lanes of each block
abbrev pub first_lanes : List ℕ
first_lanes = 0 ∷ 1 ∷ 2 ∷ 3 ∷ 4 ∷ 5 ∷ 6 ∷ 7 ∷ 8 ∷ 9 ∷ 10 ∷ 11 ∷ 12 ∷ 13 ∷ 14 ∷ 15 ∷ []

abbrev pub second_lanes : List ℕ
second_lanes = 16 ∷ 17 ∷ 18 ∷ 19 ∷ 20 ∷ 21 ∷ 22 ∷ 23 ∷ 24 ∷ 25 ∷ 26 ∷ 27 ∷ 28 ∷ 29 ∷ 30 ∷ 31 ∷ []

-- the blocks of a vector
abbrev FirstPicked : List ℕ → List ℕ → Type 0
FirstPicked a b = pick_l 0 ((a ++ b) ++ (a ++ b)) first_lanes ≡ a

abbrev SecondPicked : List ℕ → List ℕ → Type 0
SecondPicked a b = pick_l 0 ((a ++ b) ++ (a ++ b)) second_lanes ≡ b

first_moved : {a b c d : List ℕ} → a ≡ c → b ≡ d → FirstPicked c d → FirstPicked a b
first_moved e f h = rw (e, f) h

second_moved : {a b c d : List ℕ} → a ≡ c → b ≡ d → SecondPicked c d → SecondPicked a b
second_moved e f h = rw (e, f) h

pub first_picked : (a b : List ℕ) → length a ≡ 16 → length b ≡ 16 → FirstPicked a b
first_picked a b la lb = first_moved (sixteen a la) (sixteen b lb) refl

pub second_picked : (a b : List ℕ) → length a ≡ 16 → length b ≡ 16 → SecondPicked a b
second_picked a b la lb = second_moved (sixteen a la) (sixteen b lb) refl
