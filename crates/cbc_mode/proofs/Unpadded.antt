-- The padding taken off again.
use Rattle.std.proofs.Common.{◌≡◌, ℕ, ◌+◌, ◌-◌, ◌<◌, true, false, List, ◌++◌, length, take, replicate, arith, ap, sym}
use Rattle.std.proofs.Common.{◌∙◌, refl, rules, Some, None}
use Rattle.std.specs.Prelude.{slice_index, bytes_eq}
use Rattle.std.proofs.lemmas.List.{get_or-append-add, get_or-replicate, length-append, length-replicate, take_at}
use Rattle.std.proofs.lemmas.Slice.Eq.{bytes_eq-Decides}
use Rattle.cbc_mode.specs.Padding.{pad, padding_len, unpad}

pub eq_yes : (xs ys : List ℕ) → xs ≡ ys → bytes_eq xs ys ≡ true
eq_yes xs ys e = search (rules, bytes_eq-Decides xs ys, e)

pub eq_no : (xs ys : List ℕ) → (xs ≡ ys → ⊥) → bytes_eq xs ys ≡ false
eq_no xs ys e = search (rules, bytes_eq-Decides xs ys, e)

pub eq_from : (xs ys : List ℕ) → bytes_eq xs ys ≡ true → xs ≡ ys
eq_from xs ys e = search (rules, bytes_eq-Decides xs ys, e)

-- the last byte of a padded message is the number of its bytes of padding
last_of-pad : (p : List ℕ) → slice_index (pad p) (length (pad p) - 1) ≡ padding_len (length p)
unfolding pad
last_of-pad p =
    let k = padding_len (length p) in
    let some : 0 < k = omega arith in
    let long : length (p ++ replicate k k) ≡ length p + k =
    omega (arith, length-append p (replicate k k), length-replicate k k) in
    let at : length (p ++ replicate k k) - 1 ≡ length p + (k - 1) = omega (arith, long) in
    rw at (get_or-append-add p (replicate k k) (k - 1) 0 ∙ get_or-replicate k (k - 1) k 0 (omega arith))

front-pad : (p : List ℕ) (n : ℕ) → n ≡ length p → take n (pad p) ≡ p
unfolding pad
front-pad p n e = take_at p (replicate (padding_len (length p)) (padding_len (length p))) n (sym e)

length_of-pad : (p : List ℕ) → length (pad p) ≡ length p + padding_len (length p)
unfolding pad
length_of-pad p = let k = padding_len (length p) in omega (arith, length-append p (replicate k k), length-replicate k k)

pub unpad-pad : (p : List ℕ) → unpad (pad p) ≡ Some p
unfolding unpad
unpad-pad p =
    let n : ℕ = length (pad p) - slice_index (pad p) (length (pad p) - 1) in
    let size : n ≡ length p = ap (λ (k : ℕ). length (pad p) - k) (last_of-pad p) ∙ omega (arith, length_of-pad p) in
    let front : take n (pad p) ≡ p = front-pad p n size in
    let same : bytes_eq (pad (take n (pad p))) (pad p) ≡ true = eq_yes _ _ (ap pad front) in
    rw same (ap Some front)

-- bytes that are the padded form of no message
pub unpad-none : (bs : List ℕ) → ((p : List ℕ) → bs ≡ pad p → ⊥) → unpad bs ≡ None
unfolding unpad
unpad-none bs never =
    let n = length bs - slice_index bs (length bs - 1) in
    let off : bytes_eq (pad (take n bs)) bs ≡ false = eq_no (pad (take n bs)) bs (λ e. never (take n bs) (sym e)) in
    rw off refl
