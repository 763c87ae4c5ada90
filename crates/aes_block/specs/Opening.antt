-- The state and the round keys of opening (FIPS 197, 5.3) by shuffles.
use Rattle.std.specs.Prelude.{◌≡◌, ℕ, ◌-◌, List, [], ◌∷◌, ◌++◌, map, slice_index_or, bit_xor}
use Rattle.aes_block.specs.Steps.{inv_sub_bytes, inv_shift_rows, inv_mix_columns, add_round_key, round_key}
use Rattle.aes_block.specs.Substitution.{inv_affine}
use Rattle.aes_block.specs.Sealing.{into, placed, places}

-- a byte whose inverse InvSubBytes takes, in the transformed basis
unfoldable pub into_open : ℕ → ℕ
into_open b = into (inv_affine b)

-- the linear part of that map
unfoldable pub linear_open : ℕ → ℕ
linear_open b = into (bit_xor (inv_affine b) 0x05)

-- one round of the equivalent inverse cipher
abbrev pub open_round : List ℕ → List ℕ → List ℕ
open_round s k = add_round_key (inv_mix_columns (inv_sub_bytes (inv_shift_rows s))) k

-- the last round, which has no InvMixColumns (FIPS 197, 5.3.5)
abbrev pub open_last : List ℕ → List ℕ → List ℕ
open_last s k = add_round_key (inv_sub_bytes (inv_shift_rows s)) k

-- the states of two blocks behind round r, side by side, each at the places of its bytes
abbrev pub both_at : ℕ → List ℕ → List ℕ → List ℕ
both_at r s t = placed (map into_open s) (places (16 - r)) ++ placed (map into_open t) (places (16 - r))

-- the positions of the shuffles
abbrev pub open_turns : List (List ℕ)
open_turns =
    (1 ∷ 2 ∷ 3 ∷ 0 ∷ 5 ∷ 6 ∷ 7 ∷ 4 ∷ 9 ∷ 10 ∷ 11 ∷ 8 ∷ 13 ∷ 14 ∷ 15 ∷ 12 ∷ [])
    ∷ (13 ∷ 14 ∷ 15 ∷ 12 ∷ 1 ∷ 2 ∷ 3 ∷ 0 ∷ 5 ∷ 6 ∷ 7 ∷ 4 ∷ 9 ∷ 10 ∷ 11 ∷ 8 ∷ [])
    ∷ (9 ∷ 10 ∷ 11 ∷ 8 ∷ 13 ∷ 14 ∷ 15 ∷ 12 ∷ 1 ∷ 2 ∷ 3 ∷ 0 ∷ 5 ∷ 6 ∷ 7 ∷ 4 ∷ [])
    ∷ (5 ∷ 6 ∷ 7 ∷ 4 ∷ 9 ∷ 10 ∷ 11 ∷ 8 ∷ 13 ∷ 14 ∷ 15 ∷ 12 ∷ 1 ∷ 2 ∷ 3 ∷ 0 ∷ [])
    ∷ (2 ∷ 3 ∷ 0 ∷ 1 ∷ 6 ∷ 7 ∷ 4 ∷ 5 ∷ 10 ∷ 11 ∷ 8 ∷ 9 ∷ 14 ∷ 15 ∷ 12 ∷ 13 ∷ [])
    ∷ (10 ∷ 11 ∷ 8 ∷ 9 ∷ 14 ∷ 15 ∷ 12 ∷ 13 ∷ 2 ∷ 3 ∷ 0 ∷ 1 ∷ 6 ∷ 7 ∷ 4 ∷ 5 ∷ [])
    ∷ (2 ∷ 3 ∷ 0 ∷ 1 ∷ 6 ∷ 7 ∷ 4 ∷ 5 ∷ 10 ∷ 11 ∷ 8 ∷ 9 ∷ 14 ∷ 15 ∷ 12 ∷ 13 ∷ [])
    ∷ (10 ∷ 11 ∷ 8 ∷ 9 ∷ 14 ∷ 15 ∷ 12 ∷ 13 ∷ 2 ∷ 3 ∷ 0 ∷ 1 ∷ 6 ∷ 7 ∷ 4 ∷ 5 ∷ [])
    ∷ (0 ∷ 9 ∷ 2 ∷ 11 ∷ 4 ∷ 13 ∷ 6 ∷ 15 ∷ 8 ∷ 1 ∷ 10 ∷ 3 ∷ 12 ∷ 5 ∷ 14 ∷ 7 ∷ []) ∷ []

-- the round keys of opening for the words w
pub record AreOpeningKeys (keys : List (List ℕ)) (w : List ℕ) : Type 0 where
  pub key_0 : slice_index_or keys 0 [] ≡ map into_open (round_key w 14)
  pub key_1 : slice_index_or keys 1 [] ≡ placed (map into_open (inv_mix_columns (round_key w 13))) (places 3)
  pub key_2 : slice_index_or keys 2 [] ≡ placed (map into_open (inv_mix_columns (round_key w 12))) (places 2)
  pub key_3 : slice_index_or keys 3 [] ≡ placed (map into_open (inv_mix_columns (round_key w 11))) (places 1)
  pub key_4 : slice_index_or keys 4 [] ≡ placed (map into_open (inv_mix_columns (round_key w 10))) (places 0)
  pub key_5 : slice_index_or keys 5 [] ≡ placed (map into_open (inv_mix_columns (round_key w 9))) (places 3)
  pub key_6 : slice_index_or keys 6 [] ≡ placed (map into_open (inv_mix_columns (round_key w 8))) (places 2)
  pub key_7 : slice_index_or keys 7 [] ≡ placed (map into_open (inv_mix_columns (round_key w 7))) (places 1)
  pub key_8 : slice_index_or keys 8 [] ≡ placed (map into_open (inv_mix_columns (round_key w 6))) (places 0)
  pub key_9 : slice_index_or keys 9 [] ≡ placed (map into_open (inv_mix_columns (round_key w 5))) (places 3)
  pub key_10 : slice_index_or keys 10 [] ≡ placed (map into_open (inv_mix_columns (round_key w 4))) (places 2)
  pub key_11 : slice_index_or keys 11 [] ≡ placed (map into_open (inv_mix_columns (round_key w 3))) (places 1)
  pub key_12 : slice_index_or keys 12 [] ≡ placed (map into_open (inv_mix_columns (round_key w 2))) (places 0)
  pub key_13 : slice_index_or keys 13 [] ≡ placed (map into_open (inv_mix_columns (round_key w 1))) (places 3)
  pub key_14 : slice_index_or keys 14 [] ≡ placed (round_key w 0) (places 2)
