-- InvCipher undoes Cipher and the other way round (FIPS 197, 5.3), for a block under any words.
use Rattle.std.proofs.Common.{◌≡◌, ℕ, zero, suc, ◌+◌, ◌-◌, List, arith, ap, ◌∙◌}
use Rattle.aes_block.specs.Block.{IsBlock}
use Rattle.aes_block.specs.Steps.{sub_bytes, inv_sub_bytes, shift_rows, inv_shift_rows, mix_columns, inv_mix_columns}
use Rattle.aes_block.specs.Steps.{round_key, add_round_key}
use Rattle.aes_block.specs.Cipher.{rounds, inv_rounds, cipher, inv_cipher}
use Rattle.aes_block.proofs.Blocks.{IsBlock-sub_bytes, IsBlock-inv_sub_bytes, IsBlock-shift_rows}
use Rattle.aes_block.proofs.Blocks.{IsBlock-inv_shift_rows, IsBlock-mix_columns, IsBlock-inv_mix_columns}
use Rattle.aes_block.proofs.Blocks.{IsBlock-round_key, IsBlock-add_round_key}
use Rattle.aes_block.proofs.MixColumns.{inv_mix_columns-mix_columns, mix_columns-inv_mix_columns}
use Rattle.aes_block.proofs.Undone.{inv_sub_bytes-sub_bytes, sub_bytes-inv_sub_bytes, inv_shift_rows-shift_rows}
use Rattle.aes_block.proofs.Undone.{shift_rows-inv_shift_rows, add_round_key-add_round_key}

-- what a round has before MixColumns
abbrev shifted : List ℕ → List ℕ
shifted s = shift_rows (sub_bytes s)

-- what a round of InvCipher has before its key
abbrev unshifted : List ℕ → List ℕ
unshifted s = inv_sub_bytes (inv_shift_rows s)

IsBlock-shifted : (s : List ℕ) → IsBlock s → IsBlock (shifted s)
IsBlock-shifted s block = IsBlock-shift_rows _ (IsBlock-sub_bytes s block)

IsBlock-unshifted : (s : List ℕ) → IsBlock s → IsBlock (unshifted s)
IsBlock-unshifted s block = IsBlock-inv_sub_bytes _ (IsBlock-inv_shift_rows s block)

unshifted-shifted : (s : List ℕ) → IsBlock s → unshifted (shifted s) ≡ s
unshifted-shifted s block = ap inv_sub_bytes (inv_shift_rows-shift_rows (sub_bytes s) (IsBlock-sub_bytes s block))
    ∙ inv_sub_bytes-sub_bytes s block

shifted-unshifted : (s : List ℕ) → IsBlock s → shifted (unshifted s) ≡ s
shifted-unshifted s block = ap shift_rows (sub_bytes-inv_sub_bytes (inv_shift_rows s) (IsBlock-inv_shift_rows s block))
    ∙ shift_rows-inv_shift_rows s block

IsBlock-rounds : (w b : List ℕ) (n : ℕ) → IsBlock b → IsBlock (rounds w b n)
unfolding rounds
IsBlock-rounds w b zero block = IsBlock-add_round_key b _ block (IsBlock-round_key w 0)
IsBlock-rounds w b (suc n) block =
    IsBlock-add_round_key _ _ (IsBlock-mix_columns _ (IsBlock-shifted _ (IsBlock-rounds w b n block)))
    (IsBlock-round_key w (suc n))

IsBlock-inv_rounds : (w b : List ℕ) (n : ℕ) → IsBlock b → IsBlock (inv_rounds w b n)
unfolding inv_rounds
IsBlock-inv_rounds w b zero block = IsBlock-add_round_key b _ block (IsBlock-round_key w 14)
IsBlock-inv_rounds w b (suc n) block =
    IsBlock-inv_mix_columns _ (IsBlock-add_round_key _ _ (IsBlock-unshifted _ (IsBlock-inv_rounds w b n block))
    (IsBlock-round_key w (13 - n)))

-- after n rounds of InvCipher stands what round m + 1 of Cipher had before MixColumns, n + m = 13
inv_rounds-cipher : (w b : List ℕ) (n m : ℕ) → n + m ≡ 13 → IsBlock b
    → inv_rounds w (cipher w b) n ≡ shifted (rounds w b m)
unfolding inv_rounds rounds cipher
inv_rounds-cipher w b zero m e block =
    let last : m ≡ 13 = omega arith in
    rw last (add_round_key-add_round_key (shifted (rounds w b 13)) (round_key w 14)
    (IsBlock-shifted _ (IsBlock-rounds w b 13 block)) (IsBlock-round_key w 14))
inv_rounds-cipher w b (suc n) m e block =
    let key : 13 - n ≡ suc m = omega arith in
    let s : List ℕ = rounds w b m in
    let before : inv_rounds w (cipher w b) n ≡ shifted (rounds w b (suc m)) =
    inv_rounds-cipher w b n (suc m) (omega arith) block in
    ap (λ x. inv_mix_columns (add_round_key (unshifted x) (round_key w (13 - n)))) before
    ∙ ap (λ x. inv_mix_columns (add_round_key x (round_key w (13 - n))))
    (unshifted-shifted _ (IsBlock-rounds w b (suc m) block))
    ∙ ap (λ k. inv_mix_columns (add_round_key (rounds w b (suc m)) (round_key w k))) key
    ∙ ap inv_mix_columns (add_round_key-add_round_key (mix_columns (shifted s)) (round_key w (suc m))
    (IsBlock-mix_columns _ (IsBlock-shifted s (IsBlock-rounds w b m block))) (IsBlock-round_key w (suc m)))
    ∙ inv_mix_columns-mix_columns (shifted s) (IsBlock-shifted s (IsBlock-rounds w b m block))

pub inv_cipher-cipher : (w b : List ℕ) → IsBlock b → inv_cipher w (cipher w b) ≡ b
unfolding inv_cipher rounds
inv_cipher-cipher w b block =
    ap (λ x. add_round_key (unshifted x) (round_key w 0)) (inv_rounds-cipher w b 13 0 (omega arith) block)
    ∙ ap (λ x. add_round_key x (round_key w 0)) (unshifted-shifted _ (IsBlock-rounds w b 0 block))
    ∙ add_round_key-add_round_key b (round_key w 0) block (IsBlock-round_key w 0)

-- after n rounds of Cipher stands what round m + 1 of InvCipher had before its key, n + m = 13
rounds-inv_cipher : (w b : List ℕ) (n m : ℕ) → n + m ≡ 13 → IsBlock b
    → rounds w (inv_cipher w b) n ≡ unshifted (inv_rounds w b m)
unfolding inv_rounds rounds inv_cipher
rounds-inv_cipher w b zero m e block =
    let last : m ≡ 13 = omega arith in
    rw last (add_round_key-add_round_key (unshifted (inv_rounds w b 13)) (round_key w 0)
    (IsBlock-unshifted _ (IsBlock-inv_rounds w b 13 block)) (IsBlock-round_key w 0))
rounds-inv_cipher w b (suc n) m e block =
    let key : suc n ≡ 13 - m = omega arith in
    let s : List ℕ = inv_rounds w b m in
    let keyed : IsBlock (add_round_key (unshifted s) (round_key w (13 - m))) =
    IsBlock-add_round_key _ _ (IsBlock-unshifted s (IsBlock-inv_rounds w b m block)) (IsBlock-round_key w (13 - m)) in
    let before : rounds w (inv_cipher w b) n ≡ unshifted (inv_rounds w b (suc m)) =
    rounds-inv_cipher w b n (suc m) (omega arith) block in
    ap (λ x. add_round_key (mix_columns (shifted x)) (round_key w (suc n))) before
    ∙ ap (λ x. add_round_key (mix_columns x) (round_key w (suc n)))
    (shifted-unshifted _ (IsBlock-inv_rounds w b (suc m) block))
    ∙ ap (λ k. add_round_key (mix_columns (inv_rounds w b (suc m))) (round_key w k)) key
    ∙ ap (λ x. add_round_key x (round_key w (13 - m))) (mix_columns-inv_mix_columns _ keyed)
    ∙ add_round_key-add_round_key (unshifted s) (round_key w (13 - m))
    (IsBlock-unshifted s (IsBlock-inv_rounds w b m block)) (IsBlock-round_key w (13 - m))

pub cipher-inv_cipher : (w b : List ℕ) → IsBlock b → cipher w (inv_cipher w b) ≡ b
unfolding cipher inv_rounds
cipher-inv_cipher w b block =
    ap (λ x. add_round_key (shifted x) (round_key w 14)) (rounds-inv_cipher w b 13 0 (omega arith) block)
    ∙ ap (λ x. add_round_key x (round_key w 14)) (shifted-unshifted _ (IsBlock-inv_rounds w b 0 block))
    ∙ add_round_key-add_round_key b (round_key w 14) block (IsBlock-round_key w 14)
