-- The S-box by shuffles, against its definition, at each byte.
use Rattle.std.proofs.Common.{◌≡◌, ℕ, ◌<◌, true, refl}
use Rattle.std.specs.Prelude.{◌==◌, bit_xor}
use Rattle.aes_block.specs.Field.{times_x, product_by, product, product_of_squares, inverse}
use Rattle.aes_block.specs.Substitution.{affine, sub_byte}
use Rattle.aes_block.specs.declared.tables.TheConstants.{INVERSE, RATIO, INTO_LOW, INTO_HIGH, ONE_U, ONE_V, TWO_U}
use Rattle.aes_block.specs.declared.tables.TheConstants.{TWO_V, LAST_U, LAST_V}
use Rattle.aes_block.specs.Nibbles.{by_nibbles}
use Rattle.aes_block.specs.Sealing.{into, at_halves}
use Rattle.aes_block.proofs.Computed.{passes_below, passes_at, same_below, equal_from_test}

into_entries : passes_below 256 (λ b. by_nibbles INTO_LOW INTO_HIGH b == into b) ≡ true
unfolding into
into_entries = refl

pub into_is : (b : ℕ) → b < 256 → by_nibbles INTO_LOW INTO_HIGH b ≡ into b
into_is b l = same_below 256 (λ b. by_nibbles INTO_LOW INTO_HIGH b) into into_entries b l

one_entries : passes_below 256 (λ b. at_halves INVERSE RATIO ONE_U ONE_V (into b) == bit_xor (into (sub_byte b))
    (into 0x63)) ≡ true
unfolding into at_halves sub_byte affine inverse product_of_squares product product_by times_x
one_entries = refl

pub one_is : (b : ℕ) → b < 256 → at_halves INVERSE RATIO ONE_U ONE_V (into b) ≡ bit_xor (into (sub_byte b)) (into 0x63)
one_is b l = same_below 256 (λ b. at_halves INVERSE RATIO ONE_U ONE_V (into b))
    (λ b. bit_xor (into (sub_byte b)) (into 0x63)) one_entries b l

two_entries : passes_below 256 (λ b. at_halves INVERSE RATIO TWO_U TWO_V (into b) == bit_xor
    (into (product (sub_byte b) 2)) (into 0xc6)) ≡ true
unfolding into at_halves sub_byte affine inverse product_of_squares product product_by times_x
two_entries = refl

pub two_is : (b : ℕ) → b < 256 → at_halves INVERSE RATIO TWO_U TWO_V (into b)
    ≡ bit_xor (into (product (sub_byte b) 2)) (into 0xc6)
two_is b l = same_below 256 (λ b. at_halves INVERSE RATIO TWO_U TWO_V (into b))
    (λ b. bit_xor (into (product (sub_byte b) 2)) (into 0xc6)) two_entries b l

last_entries : passes_below 256 (λ b. at_halves INVERSE RATIO LAST_U LAST_V (into b) == bit_xor (sub_byte b) 0x63)
    ≡ true
unfolding into at_halves sub_byte affine inverse product_of_squares product product_by times_x
last_entries = refl

pub last_is : (b : ℕ) → b < 256 → at_halves INVERSE RATIO LAST_U LAST_V (into b) ≡ bit_xor (sub_byte b) 0x63
last_is b l = same_below 256 (λ b. at_halves INVERSE RATIO LAST_U LAST_V (into b))
    (λ b. bit_xor (sub_byte b) 0x63) last_entries b l

linear_pairs : passes_below 256 (λ a. passes_below 256 (λ b. into (bit_xor a b) == bit_xor (into a) (into b))) ≡ true
unfolding into
linear_pairs = refl

-- the change of basis is linear
pub into-xor : (a b : ℕ) → a < 256 → b < 256 → into (bit_xor a b) ≡ bit_xor (into a) (into b)
into-xor a b la lb = equal_from_test _ _
    (passes_at 256 (λ b. into (bit_xor a b) == bit_xor (into a) (into b))
    (passes_at 256 (λ a. passes_below 256 (λ b. into (bit_xor a b) == bit_xor (into a) (into b))) linear_pairs a la) b
    lb)
