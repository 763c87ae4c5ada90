-- Cipher and InvCipher with 14 rounds (FIPS 197, 5.1 and 5.3), from the 60 words w of a key
-- schedule and a block of 16 bytes.
use Rattle.std.specs.Prelude.{ℕ, zero, suc, ◌-◌, List}
use Rattle.aes_block.specs.Steps.{sub_bytes, inv_sub_bytes, shift_rows, inv_shift_rows, mix_columns, inv_mix_columns}
use Rattle.aes_block.specs.Steps.{round_key, add_round_key}

-- FIPS 197, 5.1, figure 5: the state after the first r rounds, of which none is the last
unfoldable pub rounds : List ℕ → List ℕ → ℕ → List ℕ
rounds w block zero = add_round_key block (round_key w 0)
rounds w block (suc r) =
    add_round_key (mix_columns (shift_rows (sub_bytes (rounds w block r)))) (round_key w (suc r))

-- FIPS 197, 5.1, figure 5: Cipher. The last round has no MixColumns
unfoldable pub cipher : List ℕ → List ℕ → List ℕ
cipher w block = add_round_key (shift_rows (sub_bytes (rounds w block 13))) (round_key w 14)

-- FIPS 197, 5.3, figure 12: the state after the first r rounds, of which none is the last, with
-- the round keys in the other order
unfoldable pub inv_rounds : List ℕ → List ℕ → ℕ → List ℕ
inv_rounds w block zero = add_round_key block (round_key w 14)
inv_rounds w block (suc r) =
    inv_mix_columns (add_round_key (inv_sub_bytes (inv_shift_rows (inv_rounds w block r))) (round_key w (13 - r)))

-- FIPS 197, 5.3, figure 12: InvCipher. The last round has no InvMixColumns
unfoldable pub inv_cipher : List ℕ → List ℕ → List ℕ
inv_cipher w block =
    add_round_key (inv_sub_bytes (inv_shift_rows (inv_rounds w block 13))) (round_key w 0)
