-- The first 00 among the first bytes is the first of all.
use Rattle.std.proofs.Common.{◌≡◌, ℕ, zero, suc, ◌+◌, ◌<◌, Bool, false, cond, eqb, List, [], ◌∷◌, length, take}
use Rattle.std.proofs.Common.{Option, Some, None, option_map, refl, ap, ◌∙◌, arith, add-one, length-take}
use Rattle.std.proofs.lemmas.Bool.{ne_eqb}
use Rattle.std.specs.Prelude.{IfSome}
use Rattle.memchr.specs.Find.{IsFirstByte, Nowhere, Passes, is_byte}
use Rattle.bson_codec.specs.Reading.{before_zero}

abbrev some : ℕ → Option ℕ
some n = Some n

-- where the first k bytes have a 00 in place n and none before it, n bytes stand before the first 00
pub near_zero : (bs : List ℕ) (k n : ℕ) → Nowhere (Passes (is_byte 0) (take k bs)) 0 n → n < length (take k bs)
    → Passes (is_byte 0) (take k bs) n → before_zero bs ≡ Some n
near_zero [] zero n none inside is = absurd (omega (arith, inside))
near_zero [] (suc k) n none inside is = absurd (omega (arith, inside))
near_zero (b ∷ bs) zero n none inside is = absurd (omega (arith, inside))
near_zero (b ∷ bs) (suc k) zero none inside is = rw is refl
near_zero (zero ∷ bs) (suc k) (suc n) none inside is = absurd (none 0 (omega arith) (omega arith) refl)
near_zero (suc b ∷ bs) (suc k) (suc n) none inside is =
    let nonzero : eqb (suc b) 0 ≡ false = ne_eqb (suc b) 0 (λ h. omega arith) in
    let below : Nowhere (Passes (is_byte 0) (take k bs)) 0 n = λ j low high. none (suc j) (omega arith)
    (omega (arith, high)) in
    let rest = near_zero bs k n below (omega (arith, inside)) is in
    ap (λ (t : Bool). cond t (Some 0) (option_map (λ m. m + 1) (before_zero bs))) nonzero
    ∙ ap (option_map (λ m. m + 1)) rest ∙ ap some (add-one n)

-- where the first 00 of the first k bytes is found, it is the first of all
pub near_found : (bs : List ℕ) (k : ℕ) (r : Option ℕ) → IsFirstByte (is_byte 0) (take k bs) r
    → IfSome r (λ n. before_zero bs ≡ Some n)
near_found bs k None first = tt
near_found bs k (Some n) first = near_zero bs k n first.0.before first.0.high first.1

-- and there is that byte
pub near_inside : (bs : List ℕ) (k : ℕ) (r : Option ℕ) → IsFirstByte (is_byte 0) (take k bs) r
    → IfSome r (λ n. n < length bs)
near_inside bs k None first = tt
near_inside bs k (Some n) first = omega (arith, first.0.high, length-take k bs)
