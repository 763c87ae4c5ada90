-- The key expansion for a 256-bit key (FIPS 197, 5.2).
use Rattle.std.specs.Prelude.{ℕ, zero, suc, ◌+◌, ◌-◌, ◌*◌, ◌/◌, ◌%◌, ◌^◌, List, [], ◌∷◌, ◌++◌, ◌==◌, if◌then◌else◌, map}
use Rattle.std.specs.Prelude.{slice_index, bit_xor}
use Rattle.std.specs.Int.{w32, rotate_left, from_be_bytes}
use Rattle.aes_block.specs.Field.{times_x}
use Rattle.aes_block.specs.Substitution.{sub_byte}
use Rattle.aes_block.specs.Block.{word_bytes}

-- FIPS 197, 5.2: SubWord, the S-box's entry for each byte of a word
unfoldable pub sub_word : ℕ → ℕ
sub_word w = from_be_bytes w32 (map sub_byte (word_bytes w))

-- FIPS 197, 5.2: RotWord, the bytes of a word turned left by one place
unfoldable pub rot_word : ℕ → ℕ
rot_word w = rotate_left w32 w 8

-- FIPS 197, 4.2.1: x to the power n
unfoldable pub power_of_x : ℕ → ℕ
power_of_x zero = 1
power_of_x (suc n) = times_x (power_of_x n)

-- FIPS 197, 5.2: Rcon[n], the word with the bytes x^(n - 1), 00, 00, 00
unfoldable pub round_constant : ℕ → ℕ
round_constant n = power_of_x (n - 1) * 2 ^ 24

-- FIPS 197, 5.2: what word i adds to the word eight before it, where t is the word before it
unfoldable pub added_word : ℕ → ℕ → ℕ
added_word i t =
    if i % 8 == 0 then bit_xor (sub_word (rot_word t)) (round_constant (i / 8))
    else if i % 8 == 4 then sub_word t
    else t

-- FIPS 197, 5.2: word i, from a list whose first i words stand
unfoldable pub word_at : List ℕ → ℕ → ℕ
word_at w i = bit_xor (slice_index w (i - 8)) (added_word i (slice_index w (i - 1)))

-- FIPS 197, 5.2: word i of the key, from its bytes 4 i, 4 i + 1, 4 i + 2 and 4 i + 3
abbrev pub key_word : List ℕ → ℕ → ℕ
key_word key i = from_be_bytes w32 (
    slice_index key (4 * i) ∷ slice_index key (4 * i + 1)
    ∷ slice_index key (4 * i + 2) ∷ slice_index key (4 * i + 3) ∷ [])

-- FIPS 197, 5.2: the first eight words, which are the key's
unfoldable pub key_words : List ℕ → List ℕ
key_words key =
    key_word key 0 ∷ key_word key 1 ∷ key_word key 2 ∷ key_word key 3
    ∷ key_word key 4 ∷ key_word key 5 ∷ key_word key 6 ∷ key_word key 7 ∷ []

-- FIPS 197, 5.2: the first n + 8 words
unfoldable pub words_to : List ℕ → ℕ → List ℕ
words_to key zero = key_words key
words_to key (suc n) = let w = words_to key n in w ++ word_at w (n + 8) ∷ []

-- FIPS 197, 5.2: the 60 words of a 256-bit key
unfoldable pub expanded : List ℕ → List ℕ
expanded key = words_to key 52
