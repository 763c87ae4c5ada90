-- The inverse S-box by shuffles, against its definition, at each byte.
use Rattle.std.proofs.Common.{◌≡◌, ℕ, ◌<◌, true, refl}
use Rattle.std.specs.Prelude.{◌==◌, bit_xor}
use Rattle.aes_block.specs.Field.{times_x, product_by, product, product_of_squares, inverse}
use Rattle.aes_block.specs.Substitution.{inv_affine, inv_sub_byte}
use Rattle.aes_block.specs.declared.tables.TheConstants.{INVERSE, RATIO}
use Rattle.aes_block.specs.declared.open_tables.TheConstants.{OPEN_LOW, OPEN_HIGH, FIVE, FOURTEEN_U, FOURTEEN_V}
use Rattle.aes_block.specs.declared.open_tables.TheConstants.{ELEVEN_U, ELEVEN_V, THIRTEEN_U, THIRTEEN_V, NINE_U}
use Rattle.aes_block.specs.declared.open_tables.TheConstants.{NINE_V, OPEN_LAST_U, OPEN_LAST_V, KEY_FOURTEEN_LOW}
use Rattle.aes_block.specs.declared.open_tables.TheConstants.{KEY_FOURTEEN_HIGH, KEY_ELEVEN_LOW, KEY_ELEVEN_HIGH}
use Rattle.aes_block.specs.declared.open_tables.TheConstants.{KEY_THIRTEEN_LOW, KEY_THIRTEEN_HIGH, KEY_NINE_LOW}
use Rattle.aes_block.specs.declared.open_tables.TheConstants.{KEY_NINE_HIGH}
use Rattle.aes_block.specs.Nibbles.{by_nibbles}
use Rattle.aes_block.specs.Sealing.{into, at_halves}
use Rattle.aes_block.specs.Opening.{into_open, linear_open}
use Rattle.aes_block.proofs.Computed.{passes_below, passes_at, same_below, equal_from_test}

fourteen_entries : passes_below 256 (λ b. at_halves INVERSE RATIO FOURTEEN_U FOURTEEN_V (into_open b) == linear_open
    (product (inv_sub_byte b) 14)) ≡ true
unfolding into_open linear_open into at_halves inv_sub_byte inv_affine inverse product_of_squares product product_by
    times_x
fourteen_entries = refl

pub fourteen_is : (b : ℕ) → b < 256 → at_halves INVERSE RATIO FOURTEEN_U FOURTEEN_V (into_open b)
    ≡ linear_open (product (inv_sub_byte b) 14)
fourteen_is b l = same_below 256 (λ b. at_halves INVERSE RATIO FOURTEEN_U FOURTEEN_V (into_open b))
    (λ b. linear_open (product (inv_sub_byte b) 14)) fourteen_entries b l

key_fourteen_entries : passes_below 256 (λ b. by_nibbles KEY_FOURTEEN_LOW KEY_FOURTEEN_HIGH b == linear_open
    (product b 14)) ≡ true
unfolding linear_open into inv_affine product product_by times_x
key_fourteen_entries = refl

pub key_fourteen_is : (b : ℕ) → b < 256 → by_nibbles KEY_FOURTEEN_LOW KEY_FOURTEEN_HIGH b ≡ linear_open (product b 14)
key_fourteen_is b l = same_below 256 (λ b. by_nibbles KEY_FOURTEEN_LOW KEY_FOURTEEN_HIGH b)
    (λ b. linear_open (product b 14)) key_fourteen_entries b l

eleven_entries : passes_below 256 (λ b. at_halves INVERSE RATIO ELEVEN_U ELEVEN_V (into_open b) == linear_open
    (product (inv_sub_byte b) 11)) ≡ true
unfolding into_open linear_open into at_halves inv_sub_byte inv_affine inverse product_of_squares product product_by
    times_x
eleven_entries = refl

pub eleven_is : (b : ℕ) → b < 256 → at_halves INVERSE RATIO ELEVEN_U ELEVEN_V (into_open b)
    ≡ linear_open (product (inv_sub_byte b) 11)
eleven_is b l = same_below 256 (λ b. at_halves INVERSE RATIO ELEVEN_U ELEVEN_V (into_open b))
    (λ b. linear_open (product (inv_sub_byte b) 11)) eleven_entries b l

key_eleven_entries : passes_below 256 (λ b. by_nibbles KEY_ELEVEN_LOW KEY_ELEVEN_HIGH b == linear_open (product b 11))
    ≡ true
unfolding linear_open into inv_affine product product_by times_x
key_eleven_entries = refl

pub key_eleven_is : (b : ℕ) → b < 256 → by_nibbles KEY_ELEVEN_LOW KEY_ELEVEN_HIGH b ≡ linear_open (product b 11)
key_eleven_is b l = same_below 256 (λ b. by_nibbles KEY_ELEVEN_LOW KEY_ELEVEN_HIGH b)
    (λ b. linear_open (product b 11)) key_eleven_entries b l

thirteen_entries : passes_below 256 (λ b. at_halves INVERSE RATIO THIRTEEN_U THIRTEEN_V (into_open b) == linear_open
    (product (inv_sub_byte b) 13)) ≡ true
unfolding into_open linear_open into at_halves inv_sub_byte inv_affine inverse product_of_squares product product_by
    times_x
thirteen_entries = refl

pub thirteen_is : (b : ℕ) → b < 256 → at_halves INVERSE RATIO THIRTEEN_U THIRTEEN_V (into_open b)
    ≡ linear_open (product (inv_sub_byte b) 13)
thirteen_is b l = same_below 256 (λ b. at_halves INVERSE RATIO THIRTEEN_U THIRTEEN_V (into_open b))
    (λ b. linear_open (product (inv_sub_byte b) 13)) thirteen_entries b l

key_thirteen_entries : passes_below 256 (λ b. by_nibbles KEY_THIRTEEN_LOW KEY_THIRTEEN_HIGH b == linear_open
    (product b 13)) ≡ true
unfolding linear_open into inv_affine product product_by times_x
key_thirteen_entries = refl

pub key_thirteen_is : (b : ℕ) → b < 256 → by_nibbles KEY_THIRTEEN_LOW KEY_THIRTEEN_HIGH b ≡ linear_open (product b 13)
key_thirteen_is b l = same_below 256 (λ b. by_nibbles KEY_THIRTEEN_LOW KEY_THIRTEEN_HIGH b)
    (λ b. linear_open (product b 13)) key_thirteen_entries b l

nine_entries : passes_below 256 (λ b. at_halves INVERSE RATIO NINE_U NINE_V (into_open b) == linear_open
    (product (inv_sub_byte b) 9)) ≡ true
unfolding into_open linear_open into at_halves inv_sub_byte inv_affine inverse product_of_squares product product_by
    times_x
nine_entries = refl

pub nine_is : (b : ℕ) → b < 256 → at_halves INVERSE RATIO NINE_U NINE_V (into_open b)
    ≡ linear_open (product (inv_sub_byte b) 9)
nine_is b l = same_below 256 (λ b. at_halves INVERSE RATIO NINE_U NINE_V (into_open b))
    (λ b. linear_open (product (inv_sub_byte b) 9)) nine_entries b l

key_nine_entries : passes_below 256 (λ b. by_nibbles KEY_NINE_LOW KEY_NINE_HIGH b == linear_open (product b 9)) ≡ true
unfolding linear_open into inv_affine product product_by times_x
key_nine_entries = refl

pub key_nine_is : (b : ℕ) → b < 256 → by_nibbles KEY_NINE_LOW KEY_NINE_HIGH b ≡ linear_open (product b 9)
key_nine_is b l = same_below 256 (λ b. by_nibbles KEY_NINE_LOW KEY_NINE_HIGH b)
    (λ b. linear_open (product b 9)) key_nine_entries b l

open_last_entries : passes_below 256 (λ b. at_halves INVERSE RATIO OPEN_LAST_U OPEN_LAST_V
    (into_open b) == inv_sub_byte b) ≡ true
unfolding into_open linear_open into at_halves inv_sub_byte inv_affine inverse product_of_squares product product_by
    times_x
open_last_entries = refl

pub open_last_is : (b : ℕ) → b < 256 → at_halves INVERSE RATIO OPEN_LAST_U OPEN_LAST_V (into_open b) ≡ inv_sub_byte b
open_last_is b l = same_below 256 (λ b. at_halves INVERSE RATIO OPEN_LAST_U OPEN_LAST_V (into_open b))
    (λ b. inv_sub_byte b) open_last_entries b l

open_low_entries : passes_below 256 (λ b. by_nibbles OPEN_LOW OPEN_HIGH b == linear_open b) ≡ true
unfolding linear_open into inv_affine
open_low_entries = refl

pub open_low_is : (b : ℕ) → b < 256 → by_nibbles OPEN_LOW OPEN_HIGH b ≡ linear_open b
open_low_is b l = same_below 256 (λ b. by_nibbles OPEN_LOW OPEN_HIGH b) (λ b. linear_open b) open_low_entries b l

five_entries : passes_below 256 (λ b. into_open b == bit_xor (linear_open b) FIVE) ≡ true
unfolding into_open linear_open into inv_affine
five_entries = refl

pub five_is : (b : ℕ) → b < 256 → into_open b ≡ bit_xor (linear_open b) FIVE
five_is b l = same_below 256 (λ b. into_open b) (λ b. bit_xor (linear_open b) FIVE) five_entries b l

linear_open-xor_pairs : passes_below 256 (λ a. passes_below 256
    (λ b. linear_open (bit_xor a b) == bit_xor (linear_open a) (linear_open b))) ≡ true
unfolding into_open linear_open into inv_affine
linear_open-xor_pairs = refl

pub linear_open-xor : (a b : ℕ) → a < 256 → b < 256
    → linear_open (bit_xor a b) ≡ bit_xor (linear_open a) (linear_open b)
linear_open-xor a b la lb = equal_from_test _ _
    (passes_at 256 (λ b. linear_open (bit_xor a b) == bit_xor (linear_open a) (linear_open b))
    (passes_at 256 (λ a. passes_below 256 (λ b. linear_open (bit_xor a b) == bit_xor (linear_open a) (linear_open b)))
    linear_open-xor_pairs a la) b lb)

into_open-xor_pairs : passes_below 256 (λ a. passes_below 256
    (λ b. into_open (bit_xor a b) == bit_xor (linear_open a) (into_open b))) ≡ true
unfolding into_open linear_open into inv_affine
into_open-xor_pairs = refl

pub into_open-xor : (a b : ℕ) → a < 256 → b < 256 → into_open (bit_xor a b) ≡ bit_xor (linear_open a) (into_open b)
into_open-xor a b la lb = equal_from_test _ _
    (passes_at 256 (λ b. into_open (bit_xor a b) == bit_xor (linear_open a) (into_open b))
    (passes_at 256 (λ a. passes_below 256 (λ b. into_open (bit_xor a b) == bit_xor (linear_open a) (into_open b)))
    into_open-xor_pairs a la) b lb)
