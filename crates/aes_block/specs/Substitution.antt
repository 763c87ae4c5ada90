-- The S-box and the inverse S-box (FIPS 197, 5.1.1 and 5.3.2).
use Rattle.std.specs.Prelude.{ℕ, bit_xor}
use Rattle.std.specs.Int.{w8, rotate_left}
use Rattle.aes_block.specs.Field.{inverse}

-- FIPS 197, 5.1.1 (5.1): bit i becomes the sum of the bits i, i + 4, i + 5, i + 6 and i + 7, counted
-- modulo 8, and of bit i of the constant 63. Bit i + 8 - k is bit i of the byte turned left by k
unfoldable pub affine : ℕ → ℕ
affine b =
    bit_xor (bit_xor (bit_xor (bit_xor (bit_xor b
    (rotate_left w8 b 4)) (rotate_left w8 b 3)) (rotate_left w8 b 2)) (rotate_left w8 b 1)) 0x63

-- FIPS 197, 5.3.2: the inverse of that map, whose bit i is the sum of the bits i + 2, i + 5 and
-- i + 7 and of bit i of the constant 05
unfoldable pub inv_affine : ℕ → ℕ
inv_affine b =
    bit_xor (bit_xor (bit_xor (rotate_left w8 b 6) (rotate_left w8 b 3)) (rotate_left w8 b 1)) 0x05

-- FIPS 197, 5.1.1: the S-box's entry for a byte
unfoldable pub sub_byte : ℕ → ℕ
sub_byte b = affine (inverse b)

-- FIPS 197, 5.3.2: the inverse S-box's entry for a byte
unfoldable pub inv_sub_byte : ℕ → ℕ
inv_sub_byte b = inverse (inv_affine b)
