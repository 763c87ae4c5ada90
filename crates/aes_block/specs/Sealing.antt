-- The state and the round keys of sealing (FIPS 197, 5.1) by shuffles.
use Rattle.std.specs.Prelude.{◌≡◌, ℕ, ◌+◌, ◌*◌, ◌/◌, ◌%◌, List, [], map, slice_index, slice_index_or, bit_xor}
use Rattle.aes_block.specs.Steps.{cell, state, sub_bytes, shift_rows, mix_columns, add_round_key, round_key}
use Rattle.aes_block.specs.Nibbles.{entry, half_u, half_v}

-- a byte in the transformed basis: the sum of the images of its bits
unfoldable pub into : ℕ → ℕ
into b =
    bit_xor (bit_xor (bit_xor (b % 2 * 0x01) (b / 2 % 2 * 0x1c)) (bit_xor (b / 4 % 2 * 0x2d) (b / 8 % 2 * 0x27)))
    (bit_xor (bit_xor (b / 16 % 2 * 0x86) (b / 32 % 2 * 0xfd)) (bit_xor (b / 64 % 2 * 0x8e) (b / 128 % 2 * 0x77)))

-- the sum of two tables' entries at the two halves of an inverse
unfoldable pub at_halves : List ℕ → List ℕ → List ℕ → List ℕ → ℕ → ℕ
at_halves inverse ratio us vs b = bit_xor (entry us (half_u inverse ratio b)) (entry vs (half_v inverse ratio b))

-- the entries at these places
abbrev pub placed : List ℕ → List ℕ → List ℕ
placed s ks = map (λ k. slice_index s k) ks

-- the sum of the other three bytes of each column
abbrev pub others : List ℕ → List ℕ
others k = state (λ r c. bit_xor (bit_xor (cell k ((r + 1) % 4) c) (cell k ((r + 2) % 4) c)) (cell k ((r + 3) % 4) c))

-- a round key as the shuffles add it, before MixColumns
unfoldable pub keyed : List ℕ → List ℕ
keyed k = others (map (λ b. into (bit_xor b 0x63)) k)

-- one round
abbrev pub round : List ℕ → List ℕ → List ℕ
round s k = add_round_key (mix_columns (shift_rows (sub_bytes s))) k

-- the last round, which has no MixColumns (FIPS 197, 5.1)
abbrev pub last_round : List ℕ → List ℕ → List ℕ
last_round s k = add_round_key (shift_rows (sub_bytes s)) k

-- the places of a state's bytes after r rounds, whose rows are turned by the shuffles only at the end
abbrev pub places : ℕ → List ℕ
places r = state (λ i c. (i + 4 * c + 12 * (r % 4) * i) % 16)

-- the round keys of sealing for the words w
pub record AreSealingKeys (keys : List (List ℕ)) (w : List ℕ) : Type 0 where
  pub key_0 : slice_index_or keys 0 [] ≡ map into (round_key w 0)
  pub key_1 : slice_index_or keys 1 [] ≡ placed (keyed (round_key w 1)) (places 1)
  pub key_2 : slice_index_or keys 2 [] ≡ placed (keyed (round_key w 2)) (places 2)
  pub key_3 : slice_index_or keys 3 [] ≡ placed (keyed (round_key w 3)) (places 3)
  pub key_4 : slice_index_or keys 4 [] ≡ placed (keyed (round_key w 4)) (places 4)
  pub key_5 : slice_index_or keys 5 [] ≡ placed (keyed (round_key w 5)) (places 5)
  pub key_6 : slice_index_or keys 6 [] ≡ placed (keyed (round_key w 6)) (places 6)
  pub key_7 : slice_index_or keys 7 [] ≡ placed (keyed (round_key w 7)) (places 7)
  pub key_8 : slice_index_or keys 8 [] ≡ placed (keyed (round_key w 8)) (places 8)
  pub key_9 : slice_index_or keys 9 [] ≡ placed (keyed (round_key w 9)) (places 9)
  pub key_10 : slice_index_or keys 10 [] ≡ placed (keyed (round_key w 10)) (places 10)
  pub key_11 : slice_index_or keys 11 [] ≡ placed (keyed (round_key w 11)) (places 11)
  pub key_12 : slice_index_or keys 12 [] ≡ placed (keyed (round_key w 12)) (places 12)
  pub key_13 : slice_index_or keys 13 [] ≡ placed (keyed (round_key w 13)) (places 13)
  pub key_14 : slice_index_or keys 14 [] ≡ placed (map (λ b. bit_xor b 0x63) (round_key w 14)) (places 14)
