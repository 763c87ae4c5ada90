-- Opening undoes sealing (SP 800-38A, 6.2).
use Rattle.std.proofs.Common.{◌≡◌, ℕ, zero, suc, ◌+◌, ◌-◌, ◌*◌, ◌/◌, ◌%◌, ◌<◌, ◌≤◌, List, [], ◌∷◌, ◌++◌, length, take}
use Rattle.std.proofs.Common.{drop, arith, ap, sym, ◌∙◌, refl}
use Rattle.std.specs.List.{All}
use Rattle.std.proofs.Math.Seq.{take-add}
use Rattle.std.proofs.lemmas.List.Elements.{All-append, All-drop, All-replicate}
use Rattle.std.proofs.lemmas.List.{drop_at, length-append, length-drop, length-take-le, take_all, take_at}
use Rattle.aes_block.specs.Block.{IsBlock, four_words, xor_bytes}
use Rattle.aes_block.specs.Cipher.{cipher, inv_cipher}
use Rattle.aes_block.specs.Steps.{add_round_key, inv_shift_rows, inv_sub_bytes, round_key, shift_rows}
use Rattle.aes_block.proofs.Inverses.{cipher-inv_cipher, inv_cipher-cipher}
use Rattle.cbc_mode.specs.Cbc.{sealed_blocks, opened_blocks, cbc_sealed, cbc_opened}
use Rattle.cbc_mode.specs.Padding.{pad}
use Rattle.cbc_mode.proofs.WholeBlocks.{IsBlock-cipher, IsBlock-take, IsBlock-xor_bytes, xor_bytes-xor_bytes}
use Rattle.cbc_mode.proofs.Padded.{length-pad, pad-injective}

-- FIPS 197, 5.1: the cipher's answer has 16 bytes, whatever it is given
pub length-cipher : (w b : List ℕ) → length (cipher w b) ≡ 16
unfolding cipher add_round_key shift_rows round_key four_words
length-cipher w b = refl

pub length-sealed_blocks : (w : List ℕ) (n : ℕ) (before p : List ℕ) → length (sealed_blocks w n before p) ≡ 16 * n
unfolding sealed_blocks
length-sealed_blocks w zero before p = refl
length-sealed_blocks w (suc n) before p =
    let c : List ℕ = cipher w (xor_bytes (take 16 p) before) in
    omega (
      arith,
      length-append c (sealed_blocks w n c (drop 16 p)),
      length-cipher w (xor_bytes (take 16 p) before),
      length-sealed_blocks w n c (drop 16 p),
    )

pub length-cbc_sealed : (w iv p : List ℕ) → length (cbc_sealed w iv p) ≡ 16 * (length p / 16)
unfolding cbc_sealed
length-cbc_sealed w iv p = length-sealed_blocks w (length p / 16) iv p

-- a sealed message of padded bytes has the padded length
pub length-sealed_pad : (w iv p : List ℕ) → length (cbc_sealed w iv (pad p)) ≡ 16 * (length p / 16 + 1)
length-sealed_pad w iv p = omega (arith, length-cbc_sealed w iv (pad p), length-pad p)

blocks_undone : (w : List ℕ) (n : ℕ) (before p : List ℕ) → IsBlock before → All (λ b. b < 256) p → 16 * n ≤ length p
    → opened_blocks w n before (sealed_blocks w n before p) ≡ take (16 * n) p
unfolding sealed_blocks opened_blocks
blocks_undone w zero before p block bytes long = refl
blocks_undone w (suc n) before p block bytes long =
    let first : IsBlock (take 16 p) = IsBlock-take p bytes (omega arith) in
    let x : List ℕ = xor_bytes (take 16 p) before in
    let mixed : IsBlock x = IsBlock-xor_bytes _ _ first block in
    let c : List ℕ = cipher w x in
    let rest : List ℕ = sealed_blocks w n c (drop 16 p) in
    let head : take 16 (c ++ rest) ≡ c = take_at c rest 16 (length-cipher w x) in
    let tail : drop 16 (c ++ rest) ≡ rest = drop_at c rest 16 (length-cipher w x) in
    let here : xor_bytes (inv_cipher w c) before ≡ take 16 p =
    ap (λ s. xor_bytes s before) (inv_cipher-cipher w x mixed)
    ∙ xor_bytes-xor_bytes _ _ (omega (arith, first.len, block.len)) in
    let after : opened_blocks w n c rest ≡ take (16 * n) (drop 16 p) =
    blocks_undone w n c (drop 16 p) (IsBlock-cipher w x mixed) (All-drop (λ b. b < 256) 16 p bytes)
    (omega (arith, length-drop 16 p)) in
    let count : 16 * suc n ≡ 16 + 16 * n = omega arith in
    rw (head, tail, here, after, count) (sym (take-add 16 (16 * n) p))

-- SP 800-38A, 6.2: CBC Decryption undoes CBC Encryption, on whole blocks of bytes
pub cbc_undone : (w iv p : List ℕ) → IsBlock iv → All (λ b. b < 256) p → length p % 16 ≡ 0
    → cbc_opened w iv (cbc_sealed w iv p) ≡ p
unfolding cbc_sealed cbc_opened
cbc_undone w iv p block bytes whole =
    let n : ℕ = length p / 16 in
    let count : length (sealed_blocks w n iv p) / 16 ≡ n = omega (arith, length-sealed_blocks w n iv p) in
    rw count (blocks_undone w n iv p block bytes (omega arith) ∙ take_all (16 * n) p (omega arith))

-- the padded form of bytes is bytes
pub All-pad : (p : List ℕ) → All (λ b. b < 256) p → All (λ b. b < 256) (pad p)
unfolding pad
All-pad p bytes =
    All-append (λ b. b < 256) p _ bytes (All-replicate (λ b. b < 256) (16 - length p % 16) (16 - length p % 16)
    (omega arith))

-- what was sealed opens to its padded form
pub cbc_undone-pad : (w iv p : List ℕ) → IsBlock iv → All (λ b. b < 256) p
    → cbc_opened w iv (cbc_sealed w iv (pad p)) ≡ pad p
cbc_undone-pad w iv p block bytes = cbc_undone w iv (pad p) block (All-pad p bytes) (omega (arith, length-pad p))

-- and determines the message
pub cbc_determines : (w iv p q : List ℕ) → IsBlock iv → All (λ b. b < 256) p → All (λ b. b < 256) q
    → cbc_sealed w iv (pad p) ≡ cbc_sealed w iv (pad q) → p ≡ q
cbc_determines w iv p q block ps qs same =
    pad-injective p q (sym (cbc_undone-pad w iv p block ps) ∙ ap (cbc_opened w iv) same
    ∙ cbc_undone-pad w iv q block qs)

length-xor_bytes : (a b : List ℕ) → length a ≤ length b → length (xor_bytes a b) ≡ length a
length-xor_bytes [] b l = refl
length-xor_bytes (x ∷ a) [] l = absurd (omega arith)
length-xor_bytes (x ∷ a) (y ∷ b) l = ap suc (length-xor_bytes a b (omega arith))

-- FIPS 197, 5.3: the inverse cipher's answer has 16 bytes, whatever it is given
pub length-inv_cipher : (w b : List ℕ) → length (inv_cipher w b) ≡ 16
unfolding inv_cipher add_round_key inv_sub_bytes inv_shift_rows round_key four_words
length-inv_cipher w b = refl

blocks_redone : (w : List ℕ) (n : ℕ) (before c : List ℕ) → length before ≡ 16 → All (λ b. b < 256) c → 16 * n ≤ length c
    → sealed_blocks w n before (opened_blocks w n before c) ≡ take (16 * n) c
unfolding sealed_blocks opened_blocks
blocks_redone w zero before c long bytes room = refl
blocks_redone w (suc n) before c long bytes room =
    let first : IsBlock (take 16 c) = IsBlock-take c bytes (omega arith) in
    let d : List ℕ = inv_cipher w (take 16 c) in
    let dl : length d ≡ 16 = length-inv_cipher w (take 16 c) in
    let x : List ℕ = xor_bytes d before in
    let xl : length x ≡ 16 = length-xor_bytes d before (omega arith) ∙ dl in
    let rest : List ℕ = opened_blocks w n (take 16 c) (drop 16 c) in
    let head : take 16 (x ++ rest) ≡ x = take_at x rest 16 xl in
    let tail : drop 16 (x ++ rest) ≡ rest = drop_at x rest 16 xl in
    let here : cipher w (xor_bytes x before) ≡ take 16 c =
    ap (cipher w) (xor_bytes-xor_bytes d before (omega arith)) ∙ cipher-inv_cipher w (take 16 c) first in
    let after : sealed_blocks w n (take 16 c) rest ≡ take (16 * n) (drop 16 c) =
    blocks_redone w n (take 16 c) (drop 16 c) first.len (All-drop (λ b. b < 256) 16 c bytes)
    (omega (arith, length-drop 16 c)) in
    let count : 16 * suc n ≡ 16 + 16 * n = omega arith in
    rw (head, tail, here, after, count) (sym (take-add 16 (16 * n) c))

length-opened_blocks : (w : List ℕ) (n : ℕ) (before c : List ℕ) → length before ≡ 16 → 16 * n ≤ length c
    → length (opened_blocks w n before c) ≡ 16 * n
unfolding opened_blocks
length-opened_blocks w zero before c long room = refl
length-opened_blocks w (suc n) before c long room =
    let d : List ℕ = inv_cipher w (take 16 c) in
    let dl : length d ≡ 16 = length-inv_cipher w (take 16 c) in
    let rest : List ℕ = opened_blocks w n (take 16 c) (drop 16 c) in
    omega (
      arith,
      length-append (xor_bytes d before) rest,
      length-xor_bytes d before (omega arith),
      dl,
      length-drop 16 c,
      length-opened_blocks w n (take 16 c) (drop 16 c) (length-take-le 16 c (omega arith))
          (omega (arith, length-drop 16 c)),
    )

-- SP 800-38A, 6.2: CBC Encryption undoes CBC Decryption, on whole blocks of bytes
pub cbc_redone : (w iv c : List ℕ) → IsBlock iv → All (λ b. b < 256) c → length c % 16 ≡ 0
    → cbc_sealed w iv (cbc_opened w iv c) ≡ c
unfolding cbc_sealed cbc_opened
cbc_redone w iv c block bytes whole =
    let n : ℕ = length c / 16 in
    let count : length (opened_blocks w n iv c) / 16 ≡ n =
    omega (arith, length-opened_blocks w n iv c block.len (omega arith)) in
    rw count (blocks_redone w n iv c block.len bytes (omega arith) ∙ take_all (16 * n) c (omega arith))
