-- The key expansion's parts (FIPS 197, 5.2), as the code computes them.
use Rattle.std.proofs.Common.{◌≡◌, ◌≢◌, ℕ, suc, ◌+◌, ◌-◌, ◌*◌, ◌/◌, ◌%◌, ◌^◌, ◌<◌, ◌≤◌, List, ◌++◌, length}
use Rattle.std.proofs.Common.{take, true, arith, refl, sym, ◌∙◌}
use Rattle.std.specs.Prelude.{◌==◌, bit_xor, slice_index, slice_set}
use Rattle.std.proofs.lemmas.List.{get_or-take, take_more_set, take_all}
use Rattle.std.proofs.Math.Seq.{take-append_seam}
use Rattle.std.proofs.lemmas.Bool.Decides.{nat_tests}
use Rattle.aes_block.specs.Field.{times_x}
use Rattle.aes_block.specs.Expansion.{sub_word, rot_word, power_of_x, round_constant, added_word, word_at, words_to}
use Rattle.aes_block.specs.Expansion.{key_words, expanded}
use Rattle.aes_block.proofs.Computed.{passes_below, same_below}

shifted_constants : passes_below 7 (λ m. 1 * 2 ^ (m + 1 + 23) % 2 ^ 32 == round_constant (m + 1)) ≡ true
unfolding round_constant power_of_x times_x
shifted_constants = refl

-- for a 256-bit key the powers of x are bits of a byte
pub round_constant-shifted : (n : ℕ) → 1 ≤ n → n < 8 → 1 * 2 ^ (n + 23) % 2 ^ 32 ≡ round_constant n
round_constant-shifted n low high =
    let e : n - 1 + 1 ≡ n = omega arith in
    rw e at (same_below 7 (λ m. 1 * 2 ^ (m + 1 + 23) % 2 ^ 32) (λ m. round_constant (m + 1)) shifted_constants (n - 1)
    (omega arith))

pub added_word-turned : (i t : ℕ) → i % 8 ≡ 0
    → added_word i t ≡ bit_xor (sub_word (rot_word t)) (round_constant (i / 8))
unfolding added_word
added_word-turned i t e = rw e refl

pub added_word-middle : (i t : ℕ) → i % 8 ≡ 4 → added_word i t ≡ sub_word t
unfolding added_word
added_word-middle i t e = rw e refl

pub added_word-other : (i t : ℕ) → i % 8 ≢ 0 → i % 8 ≢ 4 → added_word i t ≡ t
unfolding added_word
added_word-other i t z f = grind (arith, nat_tests)

-- the key's words stand at the front
pub take-first_words : (key first rest : List ℕ) → length first ≡ 8 → first ≡ key_words key
    → take 8 (first ++ rest) ≡ words_to key 0
unfolding words_to
take-first_words key first rest l e =
    rw (← l) (take-append_seam first rest ∙ e)

-- the next word, put at place i
pub take-word_at : (key w : List ℕ) (i x : ℕ) → 8 ≤ i → i < length w → take i w ≡ words_to key (i - 8) → x ≡ word_at w i
    → take (i + 1) (slice_set w i x) ≡ words_to key (i + 1 - 8)
unfolding words_to word_at
take-word_at key w i x low high so_far e =
    let n : i + 1 - 8 ≡ suc (i - 8) = omega arith in
    let back : i - 8 + 8 ≡ i = omega arith in
    let a : slice_index (take i w) (i - 8) ≡ slice_index w (i - 8) = get_or-take i w (i - 8) 0 (omega arith) in
    let b : slice_index (take i w) (i - 1) ≡ slice_index w (i - 1) = get_or-take i w (i - 1) 0 (omega arith) in
    rw (take_more_set w i x high, n, back, ← so_far, a, b, e) refl

-- the list of all 60
pub whole : (key w : List ℕ) (i : ℕ) → i ≡ 60 → length w ≡ 60 → take i w ≡ words_to key (i - 8) → w ≡ expanded key
unfolding expanded
whole key w i e l h =
    let n : i - 8 ≡ 52 = omega arith in
    sym (take_all i w (omega arith)) ∙ (rw n at h)
