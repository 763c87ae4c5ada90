-- Lengths and the byte 00: what is read is spelled so, and what is spelled so is read.
use Rattle.std.proofs.Common.{◌≡◌, ℕ, ◌+◌, ◌^◌, ◌<◌, ◌≤◌, true, false, not, ltb, leb, eqb, ◌||◌, List, [], ◌∷◌, length}
use Rattle.std.proofs.Common.{get_or, take, drop, Ok, refl, sym, ap, subst, ◌∙◌, arith}
use Rattle.std.specs.Int.{w32, from_le_bytes, to_le_bytes}
use Rattle.std.proofs.lemmas.Bool.{ltb-false, le-ltb, leb-false, lt-leb, not-false, eqb-true, eq-eqb}
use Rattle.std.proofs.lemmas.List.{length-take-le, get_or-drop}
use Rattle.std.proofs.lemmas.Nat.{le_bytes_4, from_le_bytes-to_le_bytes_4}
use Rattle.bson_codec.specs.Reading.{signed_below, int32_at, length_at, zero_at}
use Rattle.bson_codec.proofs.Steps.{made, none_if, chose_ok, neither}
use Rattle.bson_codec.specs.Bytes.{AreBytes}
use Rattle.bson_codec.proofs.Pieces.{AreBytes-take, Begins, begins_take, begins_is, begins_fits, begins_byte}

pub number_takes : (p : ℕ) (bs : List ℕ) (n : ℕ) → AreBytes bs → int32_at p bs ≡ Ok n → Begins bs (to_le_bytes w32 n) 4
unfolding int32_at
number_takes p bs n fits e =
    let g = chose_ok (ltb (length bs) 4) _ (from_le_bytes w32 (take 4 bs)) n e in
    let long : 4 ≤ length bs = ltb-false _ _ g.0 in
    let head : to_le_bytes w32 n ≡ take 4 bs = le_bytes_4 (take 4 bs) n (length-take-le 4 bs long)
    (AreBytes-take 4 bs fits) (sym g.1) in
    subst (λ (x : List ℕ). Begins bs x 4) (sym head) (begins_take 4 bs long)

pub number_again : (p : ℕ) (bs : List ℕ) (n : ℕ) → n < 2 ^ 32 → Begins bs (to_le_bytes w32 n) 4 → int32_at p bs ≡ Ok n
unfolding int32_at
number_again p bs n lt b =
    let fits : 4 ≤ length bs = begins_fits bs _ 4 b in
    let long : ltb (length bs) 4 ≡ false = le-ltb _ _ fits in
    let value : from_le_bytes w32 (take 4 bs) ≡ n =
    ap (from_le_bytes w32) (begins_is bs _ 4 b) ∙ from_le_bytes-to_le_bytes_4 n lt in
    rw long (ap (λ (m : ℕ). made m) value)

-- what a length that was accepted is
pub record Judged (low more n m : ℕ) (bs : List ℕ) : Type 0 where
  pub same : n ≡ m
  pub least : low ≤ n
  pub small : n < 2 ^ 31
  pub fits : n + more ≤ length bs

pub length_takes : (least more n p : ℕ) (bs : List ℕ) (m : ℕ) → length_at least more n p bs ≡ Ok m
    → Judged least more n m bs
unfolding length_at
length_takes least more n p bs m e =
    let g = chose_ok (signed_below n least || ltb (length bs) (n + more)) _ n m e in
    let both = neither (signed_below n least) (ltb (length bs) (n + more)) g.0 in
    let signs = neither (ltb n least) (leb (2 ^ 31) n) both.0 in
    record { same = g.1; least = ltb-false _ _ signs.0; small = leb-false _ _ signs.1; fits = ltb-false _ _ both.1 }

pub length_again : (least more n p : ℕ) (bs : List ℕ) → least ≤ n → n < 2 ^ 31 → n + more ≤ length bs
    → length_at least more n p bs ≡ Ok n
unfolding length_at
length_again least more n p bs low small fits =
    let a : ltb n least ≡ false = le-ltb _ _ low in
    let b : leb (2 ^ 31) n ≡ false = lt-leb _ _ small in
    let c : ltb (length bs) (n + more) ≡ false = le-ltb _ _ fits in
    rw (a, b, c) refl

pub zero_takes : (i p : ℕ) (bs : List ℕ) (u : Unit {0}) → i < length bs → zero_at i p bs ≡ Ok u
    → Begins (drop i bs) (0 ∷ []) 1
unfolding zero_at
zero_takes i p bs u h e =
    let right : not (eqb (get_or bs i 0) 0) ≡ false = none_if _ _ _ u e in
    let here : get_or bs i 0 ≡ 0 = eqb-true _ _ (not-false _ right) in
    subst (λ (b : ℕ). Begins (drop i bs) (b ∷ []) 1) here (begins_byte bs i h)

pub zero_again : (i p : ℕ) (bs : List ℕ) → Begins (drop i bs) (0 ∷ []) 1 → zero_at i p bs ≡ Ok tt
unfolding zero_at
zero_again i p bs b =
    let first : get_or (drop i bs) 0 0 ≡ 0 = ap (λ (x : List ℕ). get_or x 0 0) b.parts in
    let place : get_or (drop i bs) 0 0 ≡ get_or bs (i + 0) 0 = get_or-drop i bs 0 0 in
    let same : get_or bs (i + 0) 0 ≡ get_or bs i 0 = ap (λ (k : ℕ). get_or bs k 0) (omega arith) in
    let here : get_or bs i 0 ≡ 0 = sym same ∙ sym place ∙ first in
    let test : eqb (get_or bs i 0) 0 ≡ true = eq-eqb _ _ here in
    rw test refl
