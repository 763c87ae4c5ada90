-- The steps of a round and their inverses (FIPS 197, 5.1 and 5.3). A state is a list of 16 bytes,
-- its four columns one after another.
use Rattle.std.specs.Prelude.{ℕ, ◌+◌, ◌-◌, ◌*◌, ◌%◌, List, [], ◌∷◌, ◌++◌, map, slice_index, bit_xor}
use Rattle.aes_block.specs.Field.{product}
use Rattle.aes_block.specs.Substitution.{sub_byte, inv_sub_byte}
use Rattle.aes_block.specs.Block.{four_words, xor_bytes}

-- FIPS 197, 3.4: the byte of a state in row r and column c
abbrev pub cell : List ℕ → ℕ → ℕ → ℕ
cell s r c = slice_index s (r + 4 * c)

-- FIPS 197, 3.4: the state that has the byte f r c in row r and column c
abbrev pub state : (ℕ → ℕ → ℕ) → List ℕ
state f =
    f 0 0 ∷ f 1 0 ∷ f 2 0 ∷ f 3 0 ∷
    f 0 1 ∷ f 1 1 ∷ f 2 1 ∷ f 3 1 ∷
    f 0 2 ∷ f 1 2 ∷ f 2 2 ∷ f 3 2 ∷
    f 0 3 ∷ f 1 3 ∷ f 2 3 ∷ f 3 3 ∷ []

-- FIPS 197, 5.1.1: each byte becomes its entry of the S-box
unfoldable pub sub_bytes : List ℕ → List ℕ
sub_bytes s = map sub_byte s

-- FIPS 197, 5.3.2: each byte becomes its entry of the inverse S-box
unfoldable pub inv_sub_bytes : List ℕ → List ℕ
inv_sub_bytes s = map inv_sub_byte s

-- FIPS 197, 5.1.2: row r turns left by r places
unfoldable pub shift_rows : List ℕ → List ℕ
shift_rows s = state (λ r c. cell s r ((c + r) % 4))

-- FIPS 197, 5.3.1: row r turns right by r places
unfoldable pub inv_shift_rows : List ℕ → List ℕ
inv_shift_rows s = state (λ r c. cell s r ((c + 4 - r) % 4))

-- the sum of four bytes
abbrev pub sum4 : ℕ → ℕ → ℕ → ℕ → ℕ
sum4 a b c d = bit_xor (bit_xor a b) (bit_xor c d)

-- FIPS 197, 4.3: a column of the bytes a, b, c and d, each of which becomes m0 times itself, plus
-- m1, m2 and m3 times the bytes below it, where a is below d
abbrev pub mixed_column : ℕ → ℕ → ℕ → ℕ → ℕ → ℕ → ℕ → ℕ → List ℕ
mixed_column m0 m1 m2 m3 a b c d =
    sum4 (product a m0) (product b m1) (product c m2) (product d m3)
    ∷ sum4 (product b m0) (product c m1) (product d m2) (product a m3)
    ∷ sum4 (product c m0) (product d m1) (product a m2) (product b m3)
    ∷ sum4 (product d m0) (product a m1) (product b m2) (product c m3) ∷ []

-- FIPS 197, 4.3: each column of a state
abbrev pub mixed : ℕ → ℕ → ℕ → ℕ → List ℕ → List ℕ
mixed m0 m1 m2 m3 s = column 0 ++ (column 1 ++ (column 2 ++ column 3)) where
  column : ℕ → List ℕ
  column c = mixed_column m0 m1 m2 m3 (cell s 0 c) (cell s 1 c) (cell s 2 c) (cell s 3 c)

-- FIPS 197, 5.1.3: each column times 03 x^3 + 01 x^2 + 01 x + 02, modulo x^4 + 1
unfoldable pub mix_columns : List ℕ → List ℕ
mix_columns s = mixed 0x02 0x03 0x01 0x01 s

-- FIPS 197, 5.3.3: each column times 0b x^3 + 0d x^2 + 09 x + 0e, modulo x^4 + 1
unfoldable pub inv_mix_columns : List ℕ → List ℕ
inv_mix_columns s = mixed 0x0e 0x0b 0x0d 0x09 s

-- FIPS 197, 5.1.4: the bytes of the four words of round r
unfoldable pub round_key : List ℕ → ℕ → List ℕ
round_key w r = four_words w (4 * r)

-- FIPS 197, 5.1.4 and 5.3.4: the sum with a round key, byte by byte
unfoldable pub add_round_key : List ℕ → List ℕ → List ℕ
add_round_key s key = xor_bytes s key
