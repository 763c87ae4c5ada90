-- The product by a constant is linear, and gives a byte (FIPS 197, 4.2).
use Rattle.std.proofs.Common.{◌≡◌, ℕ, zero, suc, ◌*◌, ◌/◌, ◌%◌, ◌<◌, true, inl, inr, arith, refl, ap, sym, ◌∙◌}
use Rattle.std.specs.Prelude.{◌==◌, nat_lt, bit_xor}
use Rattle.std.specs.Int.Bits.{xor_assoc}
use Rattle.std.proofs.lemmas.Nat.{xor_comm, xor_of_8}
use Rattle.std.proofs.lemmas.Bool.{cases_lt}
use Rattle.std.proofs.lemmas.Bool.Decides.{nat_tests}
use Rattle.aes_block.specs.Field.{times_x, product_by, product}
use Rattle.aes_block.specs.Steps.{sum4}
use Rattle.aes_block.proofs.Computed.{passes_below, passes_at, equal_from_test}

-- (p + q) + (r + s) = (p + r) + (q + s)
pub xor_swap : (p q r s : ℕ) → bit_xor (bit_xor p q) (bit_xor r s) ≡ bit_xor (bit_xor p r) (bit_xor q s)
xor_swap p q r s =
    xor_assoc p q (bit_xor r s)
    ∙ ap (bit_xor p) (sym (xor_assoc q r s) ∙ ap (λ x. bit_xor x s) (xor_comm q r) ∙ xor_assoc r q s)
    ∙ sym (xor_assoc p r (bit_xor q s))

linear_pairs : passes_below 256 (λ a. passes_below 256 (λ b. times_x (bit_xor a b) == bit_xor (times_x a) (times_x b)))
    ≡ true
unfolding times_x
linear_pairs = refl

pub times_x-xor : (a b : ℕ) → a < 256 → b < 256 → times_x (bit_xor a b) ≡ bit_xor (times_x a) (times_x b)
times_x-xor a b la lb = equal_from_test _ _
    (passes_at 256 (λ b. times_x (bit_xor a b) == bit_xor (times_x a) (times_x b))
    (passes_at 256 (λ a. passes_below 256 (λ b. times_x (bit_xor a b) == bit_xor (times_x a) (times_x b))) linear_pairs
    a la) b lb)

fitting_doubles : passes_below 256 (λ a. nat_lt (times_x a) 256) ≡ true
unfolding times_x
fitting_doubles = refl

pub below_from_test : (m n : ℕ) → nat_lt m n ≡ true → m < n
below_from_test m n h = grind (arith, nat_tests)

pub times_x_fits : (a : ℕ) → a < 256 → times_x a < 256
times_x_fits a l = below_from_test _ _ (passes_at 256 (λ a. nat_lt (times_x a) 256) fitting_doubles a l)

times_bit : (a b k : ℕ) → k < 2 → bit_xor a b * k ≡ bit_xor (a * k) (b * k)
times_bit a b k l = elim (cases_lt k 1) [
  | inl none ↦
      let e : k ≡ 0 = omega arith in
      let ea : a * 0 ≡ 0 = omega arith in
      let eb : b * 0 ≡ 0 = omega arith in
      let ec : bit_xor a b * 0 ≡ 0 = omega arith in
      rw (e, ea, eb, ec) refl
  | inr one ↦
      let e : k ≡ 1 = omega arith in
      let ea : a * 1 ≡ a = omega arith in
      let eb : b * 1 ≡ b = omega arith in
      let ec : bit_xor a b * 1 ≡ bit_xor a b = omega arith in
      rw (e, ea, eb, ec) refl
]

product_by-xor : (n a b m : ℕ) → a < 256 → b < 256
    → product_by n (bit_xor a b) m ≡ bit_xor (product_by n a m) (product_by n b m)
unfolding product_by
product_by-xor zero a b m la lb = refl
product_by-xor (suc n) a b m la lb =
    ap (λ x. bit_xor x (product_by n (times_x (bit_xor a b)) (m / 2))) (times_bit a b (m % 2) (omega arith))
    ∙ ap (λ x. bit_xor (bit_xor (a * (m % 2)) (b * (m % 2))) (product_by n x (m / 2))) (times_x-xor a b la lb)
    ∙ ap (bit_xor (bit_xor (a * (m % 2)) (b * (m % 2))))
    (product_by-xor n (times_x a) (times_x b) (m / 2) (times_x_fits a la) (times_x_fits b lb))
    ∙ xor_swap (a * (m % 2)) (b * (m % 2)) (product_by n (times_x a) (m / 2)) (product_by n (times_x b) (m / 2))

pub product-xor : (a b m : ℕ) → a < 256 → b < 256 → product (bit_xor a b) m ≡ bit_xor (product a m) (product b m)
unfolding product
product-xor a b m la lb = product_by-xor 8 a b m la lb

bit_fits : (a k : ℕ) → a < 256 → k < 2 → a * k < 256
bit_fits a k l h = elim (cases_lt k 1) [
  | inl none ↦
      let e : k ≡ 0 = omega arith in
      rw e (omega arith)
  | inr one ↦
      let e : k ≡ 1 = omega arith in
      rw e (omega arith)
]

product_by_fits : (n a m : ℕ) → a < 256 → product_by n a m < 256
unfolding product_by
product_by_fits zero a m l = omega arith
product_by_fits (suc n) a m l = xor_of_8 _ _ (bit_fits a (m % 2) l (omega arith))
    (product_by_fits n (times_x a) (m / 2) (times_x_fits a l))

pub product_fits : (a m : ℕ) → a < 256 → product a m < 256
unfolding product
product_fits a m l = product_by_fits 8 a m l

pub sum4_fits : (a b c d : ℕ) → a < 256 → b < 256 → c < 256 → d < 256 → sum4 a b c d < 256
sum4_fits a b c d la lb lc ld = xor_of_8 _ _ (xor_of_8 _ _ la lb) (xor_of_8 _ _ lc ld)

-- the sum of four sums is the sum of the two sums of four
pub sum4-xor : (a b c d p q r s : ℕ) → sum4 (bit_xor a p) (bit_xor b q) (bit_xor c r) (bit_xor d s)
    ≡ bit_xor (sum4 a b c d) (sum4 p q r s)
sum4-xor a b c d p q r s =
    ap (λ x. bit_xor x (bit_xor (bit_xor c r) (bit_xor d s))) (xor_swap a p b q)
    ∙ ap (bit_xor (bit_xor (bit_xor a b) (bit_xor p q))) (xor_swap c r d s)
    ∙ xor_swap (bit_xor a b) (bit_xor p q) (bit_xor c d) (bit_xor r s)
