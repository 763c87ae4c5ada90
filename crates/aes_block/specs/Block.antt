-- Blocks, words and key schedules as lists of numbers (FIPS 197, 3.2 to 3.5).
use Rattle.std.specs.Prelude.{◌≡◌, ℕ, ◌+◌, ◌/◌, ◌%◌, ◌^◌, ◌<◌, List, [], ◌∷◌, ◌++◌, length, slice_index, bit_xor}
use Rattle.std.specs.List.{All}

-- FIPS 197, 3.2: a block is 16 bytes
pub record IsBlock (block : List ℕ) : Type 0 where
  pub len : length block ≡ 16
  pub bytes : All (λ b. b < 256) block

-- FIPS 197, 5.2: the key schedule of a 256-bit key is 60 words
pub record IsSchedule (words : List ℕ) : Type 0 where
  pub len : length words ≡ 60
  pub words_fit : All (λ w. w < 2 ^ 32) words

-- FIPS 197, 3.5: the four bytes of a word, the first from its highest bits
abbrev pub word_bytes : ℕ → List ℕ
word_bytes w = w / 2 ^ 24 % 256 ∷ w / 2 ^ 16 % 256 ∷ w / 2 ^ 8 % 256 ∷ w % 256 ∷ []

-- FIPS 197, 3.4 and 3.5: the bytes of the four words of a list from word i on, a column each
unfoldable pub four_words : List ℕ → ℕ → List ℕ
four_words w i =
    word_bytes (slice_index w i) ++ (word_bytes (slice_index w (i + 1))
    ++ (word_bytes (slice_index w (i + 2)) ++ word_bytes (slice_index w (i + 3))))

-- the exclusive or of two lists, byte by byte
abbrev pub xor_bytes : List ℕ → List ℕ → List ℕ
xor_bytes [] ys = []
xor_bytes (x ∷ xs) [] = []
xor_bytes (x ∷ xs) (y ∷ ys) = bit_xor x y ∷ xor_bytes xs ys
