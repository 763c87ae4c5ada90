-- The field GF(2^8) of FIPS 197, section 4. A byte is a number below 256 and stands for the
-- polynomial in which the coefficient of x^i is its bit i, so the sum of two is their exclusive or.
use Rattle.std.specs.Prelude.{ℕ, zero, suc, ◌+◌, ◌*◌, ◌/◌, ◌%◌, ◌^◌, if◌then◌else◌, nat_lt, bit_xor}

-- FIPS 197, 4.2: the modulus m(x) = x^8 + x^4 + x^3 + x + 1
abbrev pub modulus : ℕ
modulus = 2 ^ 8 + 2 ^ 4 + 2 ^ 3 + 2 + 1

-- FIPS 197, 4.2.1: x times a byte, less m(x) where the product has the power x^8
unfoldable pub times_x : ℕ → ℕ
times_x a = if nat_lt (2 * a) 256 then 2 * a else bit_xor (2 * a) modulus

-- FIPS 197, 4.2.1: the sum of the products of a by those powers of x that the lowest n bits of b have
unfoldable pub product_by : ℕ → ℕ → ℕ → ℕ
product_by zero a b = 0
product_by (suc n) a b = bit_xor (a * (b % 2)) (product_by n (times_x a) (b / 2))

-- FIPS 197, 4.2: the product of two bytes modulo m(x)
unfoldable pub product : ℕ → ℕ → ℕ
product a b = product_by 8 a b

-- the product of a^2, a^4, .., a^(2^n), each the square of the one before
unfoldable pub product_of_squares : ℕ → ℕ → ℕ
product_of_squares zero a = 1
product_of_squares (suc n) a = let square = product a a in product square (product_of_squares n square)

-- FIPS 197, 4.2: the multiplicative inverse of a byte, and 0 for 0: its power 254, which is the product of its powers
-- 2, 4, .., 128, since the 255 other bytes are a group
unfoldable pub inverse : ℕ → ℕ
inverse a = product_of_squares 7 a
