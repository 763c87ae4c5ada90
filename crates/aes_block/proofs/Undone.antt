-- Each step undone by its inverse, on a block (FIPS 197, 5.3).
use Rattle.std.proofs.Common.{◌≡◌, ℕ, ◌<◌, List, true, refl, ap, sym, ◌∙◌}
use Rattle.std.specs.Prelude.{◌==◌, bit_xor}
use Rattle.std.specs.Int.Bits.{xor_assoc, xor_self, xor_zero_r}
use Rattle.aes_block.specs.Field.{times_x, product_by, product, product_of_squares, inverse}
use Rattle.aes_block.specs.Substitution.{affine, inv_affine, sub_byte, inv_sub_byte}
use Rattle.aes_block.specs.Block.{IsBlock}
use Rattle.aes_block.specs.Steps.{cell, state, sub_bytes, inv_sub_bytes, shift_rows, inv_shift_rows, add_round_key}
use Rattle.aes_block.proofs.Computed.{passes_below, same_below}
use Rattle.aes_block.proofs.Entries.{sixteen, sub_bytes-entries, inv_sub_bytes-entries, add_round_key-entries}
use Rattle.aes_block.proofs.Entries.{state_equal}
use Rattle.aes_block.proofs.Blocks.{byte_of}

substituted_back : passes_below 256 (λ b. inv_sub_byte (sub_byte b) == b) ≡ true
unfolding sub_byte inv_sub_byte affine inv_affine inverse product_of_squares product product_by times_x
substituted_back = refl

pub inv_sub_byte-sub_byte : (b : ℕ) → b < 256 → inv_sub_byte (sub_byte b) ≡ b
inv_sub_byte-sub_byte b l = same_below 256 (λ b. inv_sub_byte (sub_byte b)) (λ b. b) substituted_back b l

pub inv_sub_bytes-sub_bytes : (s : List ℕ) → IsBlock s → inv_sub_bytes (sub_bytes s) ≡ s
unfolding inv_sub_bytes
inv_sub_bytes-sub_bytes s block = ap inv_sub_bytes (sub_bytes-entries s block.len)
    ∙ state_equal (inv_sub_byte-sub_byte _ (byte_of s block 0)) (inv_sub_byte-sub_byte _ (byte_of s block 1))
    (inv_sub_byte-sub_byte _ (byte_of s block 2)) (inv_sub_byte-sub_byte _ (byte_of s block 3))
    (inv_sub_byte-sub_byte _ (byte_of s block 4)) (inv_sub_byte-sub_byte _ (byte_of s block 5))
    (inv_sub_byte-sub_byte _ (byte_of s block 6)) (inv_sub_byte-sub_byte _ (byte_of s block 7))
    (inv_sub_byte-sub_byte _ (byte_of s block 8)) (inv_sub_byte-sub_byte _ (byte_of s block 9))
    (inv_sub_byte-sub_byte _ (byte_of s block 10)) (inv_sub_byte-sub_byte _ (byte_of s block 11))
    (inv_sub_byte-sub_byte _ (byte_of s block 12))
    (inv_sub_byte-sub_byte _ (byte_of s block 13))
    (inv_sub_byte-sub_byte _ (byte_of s block 14))
    (inv_sub_byte-sub_byte _ (byte_of s block 15))
    ∙ sym (sixteen s block.len)

pub inv_shift_rows-shift_rows : (s : List ℕ) → IsBlock s → inv_shift_rows (shift_rows s) ≡ s
unfolding inv_shift_rows shift_rows
inv_shift_rows-shift_rows s block = sym (sixteen s block.len)

back_substituted : passes_below 256 (λ b. sub_byte (inv_sub_byte b) == b) ≡ true
unfolding sub_byte inv_sub_byte affine inv_affine inverse product_of_squares product product_by times_x
back_substituted = refl

pub sub_byte-inv_sub_byte : (b : ℕ) → b < 256 → sub_byte (inv_sub_byte b) ≡ b
sub_byte-inv_sub_byte b l = same_below 256 (λ b. sub_byte (inv_sub_byte b)) (λ b. b) back_substituted b l

pub sub_bytes-inv_sub_bytes : (s : List ℕ) → IsBlock s → sub_bytes (inv_sub_bytes s) ≡ s
unfolding sub_bytes
sub_bytes-inv_sub_bytes s block = ap sub_bytes (inv_sub_bytes-entries s block.len)
    ∙ state_equal (sub_byte-inv_sub_byte _ (byte_of s block 0)) (sub_byte-inv_sub_byte _ (byte_of s block 1))
    (sub_byte-inv_sub_byte _ (byte_of s block 2)) (sub_byte-inv_sub_byte _ (byte_of s block 3))
    (sub_byte-inv_sub_byte _ (byte_of s block 4)) (sub_byte-inv_sub_byte _ (byte_of s block 5))
    (sub_byte-inv_sub_byte _ (byte_of s block 6)) (sub_byte-inv_sub_byte _ (byte_of s block 7))
    (sub_byte-inv_sub_byte _ (byte_of s block 8)) (sub_byte-inv_sub_byte _ (byte_of s block 9))
    (sub_byte-inv_sub_byte _ (byte_of s block 10)) (sub_byte-inv_sub_byte _ (byte_of s block 11))
    (sub_byte-inv_sub_byte _ (byte_of s block 12))
    (sub_byte-inv_sub_byte _ (byte_of s block 13))
    (sub_byte-inv_sub_byte _ (byte_of s block 14))
    (sub_byte-inv_sub_byte _ (byte_of s block 15))
    ∙ sym (sixteen s block.len)

pub shift_rows-inv_shift_rows : (s : List ℕ) → IsBlock s → shift_rows (inv_shift_rows s) ≡ s
unfolding shift_rows inv_shift_rows
shift_rows-inv_shift_rows s block = sym (sixteen s block.len)

twice : (a k : ℕ) → bit_xor (bit_xor a k) k ≡ a
twice a k = xor_assoc a k k ∙ ap (bit_xor a) (xor_self k) ∙ xor_zero_r a

pub add_round_key-add_round_key : (s k : List ℕ) → IsBlock s → IsBlock k → add_round_key (add_round_key s k) k ≡ s
unfolding add_round_key
add_round_key-add_round_key s k block key =
    ap (λ x. add_round_key x k) (add_round_key-entries s k block.len key.len)
    ∙ add_round_key-entries (state (λ r c. bit_xor (cell s r c) (cell k r c))) k refl key.len
    ∙ state_equal
    (twice (cell s 0 0) (cell k 0 0)) (twice (cell s 1 0) (cell k 1 0)) (twice (cell s 2 0) (cell k 2 0))
    (twice (cell s 3 0) (cell k 3 0))
    (twice (cell s 0 1) (cell k 0 1)) (twice (cell s 1 1) (cell k 1 1)) (twice (cell s 2 1) (cell k 2 1))
    (twice (cell s 3 1) (cell k 3 1))
    (twice (cell s 0 2) (cell k 0 2)) (twice (cell s 1 2) (cell k 1 2)) (twice (cell s 2 2) (cell k 2 2))
    (twice (cell s 3 2) (cell k 3 2))
    (twice (cell s 0 3) (cell k 0 3)) (twice (cell s 1 3) (cell k 1 3)) (twice (cell s 2 3) (cell k 2 3))
    (twice (cell s 3 3) (cell k 3 3))
    ∙ sym (sixteen s block.len)
