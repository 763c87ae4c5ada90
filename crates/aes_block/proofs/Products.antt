-- Products by the constants of the two column maps, each over all bytes.
use Rattle.std.proofs.Common.{◌≡◌, ℕ, ◌+◌, ◌-◌, ◌*◌, ◌/◌, ◌%◌, ◌<◌, true, refl, arith}
use Rattle.std.specs.Prelude.{◌==◌, bit_xor}
use Rattle.aes_block.specs.Field.{times_x, product_by, product, product_of_squares, inverse}
use Rattle.aes_block.proofs.Computed.{passes_below, same_below}

entries_1 : passes_below 256 (λ a. product a 1 == a) ≡ true
unfolding product product_by times_x
entries_1 = refl

pub product-1 : (a : ℕ) → a < 256 → product a 1 ≡ a
product-1 a l = same_below 256 (λ a. product a 1) (λ a. a) entries_1 a l

entries_2 : passes_below 256 (λ a. product a 2 == times_x a) ≡ true
unfolding product product_by times_x
entries_2 = refl

pub product-2 : (a : ℕ) → a < 256 → product a 2 ≡ times_x a
product-2 a l = same_below 256 (λ a. product a 2) (λ a. times_x a) entries_2 a l

entries_3 : passes_below 256 (λ a. product a 3 == bit_xor (times_x a) a) ≡ true
unfolding product product_by times_x
entries_3 = refl

pub product-3 : (a : ℕ) → a < 256 → product a 3 ≡ bit_xor (times_x a) a
product-3 a l = same_below 256 (λ a. product a 3) (λ a. bit_xor (times_x a) a) entries_3 a l

entries_9 : passes_below 256 (λ a. product a 9 == bit_xor (times_x (times_x (times_x a))) a) ≡ true
unfolding product product_by times_x
entries_9 = refl

pub product-9 : (a : ℕ) → a < 256 → product a 9 ≡ bit_xor (times_x (times_x (times_x a))) a
product-9 a l = same_below 256 (λ a. product a 9) (λ a. bit_xor (times_x (times_x (times_x a))) a) entries_9 a l

entries_11 : passes_below 256 (λ a. product a 11 == bit_xor (times_x (bit_xor (times_x (times_x a)) a)) a) ≡ true
unfolding product product_by times_x
entries_11 = refl

pub product-11 : (a : ℕ) → a < 256 → product a 11 ≡ bit_xor (times_x (bit_xor (times_x (times_x a)) a)) a
product-11 a l = same_below 256 (λ a. product a 11)
    (λ a. bit_xor (times_x (bit_xor (times_x (times_x a)) a)) a) entries_11 a l

entries_13 : passes_below 256 (λ a. product a 13 == bit_xor (times_x (times_x (bit_xor (times_x a) a))) a) ≡ true
unfolding product product_by times_x
entries_13 = refl

pub product-13 : (a : ℕ) → a < 256 → product a 13 ≡ bit_xor (times_x (times_x (bit_xor (times_x a) a))) a
product-13 a l = same_below 256 (λ a. product a 13)
    (λ a. bit_xor (times_x (times_x (bit_xor (times_x a) a))) a) entries_13 a l

entries_14 : passes_below 256 (λ a. product a 14 == times_x (bit_xor (times_x (bit_xor (times_x a) a)) a)) ≡ true
unfolding product product_by times_x
entries_14 = refl

pub product-14 : (a : ℕ) → a < 256 → product a 14 ≡ times_x (bit_xor (times_x (bit_xor (times_x a) a)) a)
product-14 a l = same_below 256 (λ a. product a 14)
    (λ a. times_x (bit_xor (times_x (bit_xor (times_x a) a)) a)) entries_14 a l

doubles : passes_below 256 (λ a. bit_xor (a * 2 % 256) (a / 128 * 27) == times_x a) ≡ true
unfolding times_x
doubles = refl

-- 1b, which is m(x) without x^8, is added as often as 2 a has that power
pub times_x-doubled : (a : ℕ) → a < 256 → bit_xor (a * 2 % 256) (a / 128 * 27) ≡ times_x a
times_x-doubled a l = same_below 256 (λ a. bit_xor (a * 2 % 256) (a / 128 * 27)) times_x doubles a l

inverse_pairs : passes_below 255 (λ n. product (n + 1) (inverse (n + 1)) == 1) ≡ true
unfolding inverse product_of_squares product product_by times_x
inverse_pairs = refl

-- the power 254 is the multiplicative inverse
pub product-inverse : (a : ℕ) → 0 < a → a < 256 → product a (inverse a) ≡ 1
product-inverse a positive l =
    let e : a - 1 + 1 ≡ a = omega arith in
    rw e at (same_below 255 (λ n. product (n + 1) (inverse (n + 1))) (λ n. 1) inverse_pairs (a - 1) (omega arith))
