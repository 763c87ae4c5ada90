-- One round more, and the last, of Cipher and InvCipher (FIPS 197, 5.1 and 5.3).
use Rattle.std.proofs.Common.{◌≡◌, ℕ, suc, ◌-◌, List, refl}
use Rattle.aes_block.specs.Steps.{sub_bytes, inv_sub_bytes, shift_rows, inv_shift_rows, mix_columns, inv_mix_columns}
use Rattle.aes_block.specs.Steps.{round_key, add_round_key}
use Rattle.aes_block.specs.Cipher.{rounds, inv_rounds, cipher, inv_cipher}

pub rounds-next : (w b s : List ℕ) (n r m : ℕ) → r ≡ suc n → m ≡ suc n → s ≡ rounds w b n
    → add_round_key (mix_columns (shift_rows (sub_bytes s))) (round_key w r) ≡ rounds w b m
unfolding rounds
rounds-next w b s n r m er em e = rw (er, em, e) refl

pub cipher-last : (w b s : List ℕ) (n : ℕ) → n ≡ 13 → s ≡ rounds w b n
    → add_round_key (shift_rows (sub_bytes s)) (round_key w 14) ≡ cipher w b
unfolding cipher
cipher-last w b s n en e = rw (e, en) refl

pub inv_rounds-next : (w b s : List ℕ) (n r m : ℕ) → r ≡ 13 - n → m ≡ suc n → s ≡ inv_rounds w b n
    → inv_mix_columns (add_round_key (inv_sub_bytes (inv_shift_rows s)) (round_key w r)) ≡ inv_rounds w b m
unfolding inv_rounds
inv_rounds-next w b s n r m er em e = rw (er, em, e) refl

pub inv_cipher-last : (w b s : List ℕ) (n : ℕ) → n ≡ 13 → s ≡ inv_rounds w b n
    → add_round_key (inv_sub_bytes (inv_shift_rows s)) (round_key w 0) ≡ inv_cipher w b
unfolding inv_cipher
inv_cipher-last w b s n en e = rw (e, en) refl
