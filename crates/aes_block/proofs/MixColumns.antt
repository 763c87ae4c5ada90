-- MixColumns and InvMixColumns undo each other, and the second is linear (FIPS 197, 5.1.3, 5.3.3
-- and 5.3.5).
use Rattle.std.proofs.Common.{◌≡◌, ℕ, ◌<◌, List, true, refl, ap, sym, ◌∙◌}
use Rattle.std.specs.Prelude.{◌==◌, slice_index}
use Rattle.aes_block.specs.Field.{times_x, product_by, product}
use Rattle.aes_block.specs.Block.{IsBlock}
use Rattle.aes_block.specs.Steps.{sum4, mix_columns, inv_mix_columns, add_round_key}
use Rattle.aes_block.proofs.Computed.{passes_below, same_below}
use Rattle.aes_block.proofs.Entries.{sixteen, add_round_key-entries}
use Rattle.aes_block.proofs.WordBytes.{joined}
use Rattle.aes_block.proofs.Blocks.{byte_of}
use Rattle.aes_block.proofs.Mixing.{mixed_column-xor, column_undone}

mixed_test_0 : passes_below 256 (λ x. sum4 (product (product x 2) 14) (product (product x 1) 11)
    (product (product x 1) 13) (product (product x 3) 9) == x) ≡ true
unfolding product product_by times_x
mixed_test_0 = refl

mixed_0 : (x : ℕ) → x < 256 → sum4 (product (product x 2) 14) (product (product x 1) 11) (product (product x 1) 13)
    (product (product x 3) 9) ≡ x
mixed_0 x l = same_below 256 (λ x. sum4 (product (product x 2) 14) (product (product x 1) 11) (product (product x 1) 13)
    (product (product x 3) 9)) (λ x. x) mixed_test_0 x l

mixed_test_1 : passes_below 256 (λ x. sum4 (product (product x 3) 14) (product (product x 2) 11)
    (product (product x 1) 13) (product (product x 1) 9) == 0) ≡ true
unfolding product product_by times_x
mixed_test_1 = refl

mixed_1 : (x : ℕ) → x < 256 → sum4 (product (product x 3) 14) (product (product x 2) 11) (product (product x 1) 13)
    (product (product x 1) 9) ≡ 0
mixed_1 x l = same_below 256 (λ x. sum4 (product (product x 3) 14) (product (product x 2) 11) (product (product x 1) 13)
    (product (product x 1) 9)) (λ x. 0) mixed_test_1 x l

mixed_test_2 : passes_below 256 (λ x. sum4 (product (product x 1) 14) (product (product x 3) 11)
    (product (product x 2) 13) (product (product x 1) 9) == 0) ≡ true
unfolding product product_by times_x
mixed_test_2 = refl

mixed_2 : (x : ℕ) → x < 256 → sum4 (product (product x 1) 14) (product (product x 3) 11) (product (product x 2) 13)
    (product (product x 1) 9) ≡ 0
mixed_2 x l = same_below 256 (λ x. sum4 (product (product x 1) 14) (product (product x 3) 11) (product (product x 2) 13)
    (product (product x 1) 9)) (λ x. 0) mixed_test_2 x l

mixed_test_3 : passes_below 256 (λ x. sum4 (product (product x 1) 14) (product (product x 1) 11)
    (product (product x 3) 13) (product (product x 2) 9) == 0) ≡ true
unfolding product product_by times_x
mixed_test_3 = refl

mixed_3 : (x : ℕ) → x < 256 → sum4 (product (product x 1) 14) (product (product x 1) 11) (product (product x 3) 13)
    (product (product x 2) 9) ≡ 0
mixed_3 x l = same_below 256 (λ x. sum4 (product (product x 1) 14) (product (product x 1) 11) (product (product x 3) 13)
    (product (product x 2) 9)) (λ x. 0) mixed_test_3 x l

pub inv_mix_columns-mix_columns : (s : List ℕ) → IsBlock s → inv_mix_columns (mix_columns s) ≡ s
unfolding inv_mix_columns mix_columns
inv_mix_columns-mix_columns s block = joined
    (column_undone 2 3 1 1 14 11 13 9 mixed_0 mixed_1 mixed_2 mixed_3 (slice_index s 0) (slice_index s 1)
    (slice_index s 2) (slice_index s 3) (byte_of s block 0) (byte_of s block 1) (byte_of s block 2)
    (byte_of s block 3))
    (column_undone 2 3 1 1 14 11 13 9 mixed_0 mixed_1 mixed_2 mixed_3 (slice_index s 4) (slice_index s 5)
    (slice_index s 6) (slice_index s 7) (byte_of s block 4) (byte_of s block 5) (byte_of s block 6)
    (byte_of s block 7))
    (column_undone 2 3 1 1 14 11 13 9 mixed_0 mixed_1 mixed_2 mixed_3 (slice_index s 8) (slice_index s 9)
    (slice_index s 10) (slice_index s 11) (byte_of s block 8) (byte_of s block 9) (byte_of s block 10)
    (byte_of s block 11))
    (column_undone 2 3 1 1 14 11 13 9 mixed_0 mixed_1 mixed_2 mixed_3 (slice_index s 12) (slice_index s 13)
    (slice_index s 14) (slice_index s 15) (byte_of s block 12) (byte_of s block 13) (byte_of s block 14)
    (byte_of s block 15))
    ∙ sym (sixteen s block.len)

unmixed_test_0 : passes_below 256 (λ x. sum4 (product (product x 14) 2) (product (product x 9) 3)
    (product (product x 13) 1) (product (product x 11) 1) == x) ≡ true
unfolding product product_by times_x
unmixed_test_0 = refl

unmixed_0 : (x : ℕ) → x < 256 → sum4 (product (product x 14) 2) (product (product x 9) 3) (product (product x 13) 1)
    (product (product x 11) 1) ≡ x
unmixed_0 x l = same_below 256 (λ x. sum4 (product (product x 14) 2) (product (product x 9) 3)
    (product (product x 13) 1) (product (product x 11) 1)) (λ x. x) unmixed_test_0 x l

unmixed_test_1 : passes_below 256 (λ x. sum4 (product (product x 11) 2) (product (product x 14) 3)
    (product (product x 9) 1) (product (product x 13) 1) == 0) ≡ true
unfolding product product_by times_x
unmixed_test_1 = refl

unmixed_1 : (x : ℕ) → x < 256 → sum4 (product (product x 11) 2) (product (product x 14) 3) (product (product x 9) 1)
    (product (product x 13) 1) ≡ 0
unmixed_1 x l = same_below 256 (λ x. sum4 (product (product x 11) 2) (product (product x 14) 3)
    (product (product x 9) 1) (product (product x 13) 1)) (λ x. 0) unmixed_test_1 x l

unmixed_test_2 : passes_below 256 (λ x. sum4 (product (product x 13) 2) (product (product x 11) 3)
    (product (product x 14) 1) (product (product x 9) 1) == 0) ≡ true
unfolding product product_by times_x
unmixed_test_2 = refl

unmixed_2 : (x : ℕ) → x < 256 → sum4 (product (product x 13) 2) (product (product x 11) 3) (product (product x 14) 1)
    (product (product x 9) 1) ≡ 0
unmixed_2 x l = same_below 256 (λ x. sum4 (product (product x 13) 2) (product (product x 11) 3)
    (product (product x 14) 1) (product (product x 9) 1)) (λ x. 0) unmixed_test_2 x l

unmixed_test_3 : passes_below 256 (λ x. sum4 (product (product x 9) 2) (product (product x 13) 3)
    (product (product x 11) 1) (product (product x 14) 1) == 0) ≡ true
unfolding product product_by times_x
unmixed_test_3 = refl

unmixed_3 : (x : ℕ) → x < 256 → sum4 (product (product x 9) 2) (product (product x 13) 3) (product (product x 11) 1)
    (product (product x 14) 1) ≡ 0
unmixed_3 x l = same_below 256 (λ x. sum4 (product (product x 9) 2) (product (product x 13) 3)
    (product (product x 11) 1) (product (product x 14) 1)) (λ x. 0) unmixed_test_3 x l

pub mix_columns-inv_mix_columns : (s : List ℕ) → IsBlock s → mix_columns (inv_mix_columns s) ≡ s
unfolding mix_columns inv_mix_columns
mix_columns-inv_mix_columns s block = joined
    (column_undone 14 11 13 9 2 3 1 1 unmixed_0 unmixed_1 unmixed_2 unmixed_3 (slice_index s 0) (slice_index s 1)
    (slice_index s 2) (slice_index s 3) (byte_of s block 0) (byte_of s block 1) (byte_of s block 2)
    (byte_of s block 3))
    (column_undone 14 11 13 9 2 3 1 1 unmixed_0 unmixed_1 unmixed_2 unmixed_3 (slice_index s 4) (slice_index s 5)
    (slice_index s 6) (slice_index s 7) (byte_of s block 4) (byte_of s block 5) (byte_of s block 6)
    (byte_of s block 7))
    (column_undone 14 11 13 9 2 3 1 1 unmixed_0 unmixed_1 unmixed_2 unmixed_3 (slice_index s 8) (slice_index s 9)
    (slice_index s 10) (slice_index s 11) (byte_of s block 8) (byte_of s block 9) (byte_of s block 10)
    (byte_of s block 11))
    (column_undone 14 11 13 9 2 3 1 1 unmixed_0 unmixed_1 unmixed_2 unmixed_3 (slice_index s 12) (slice_index s 13)
    (slice_index s 14) (slice_index s 15) (byte_of s block 12) (byte_of s block 13) (byte_of s block 14)
    (byte_of s block 15))
    ∙ sym (sixteen s block.len)

-- the equivalent inverse cipher rests on this
pub inv_mix_columns-add_round_key : (s k : List ℕ) → IsBlock s → IsBlock k
    → inv_mix_columns (add_round_key s k) ≡ add_round_key (inv_mix_columns s) (inv_mix_columns k)
unfolding inv_mix_columns add_round_key
inv_mix_columns-add_round_key s k block key = ap inv_mix_columns (add_round_key-entries s k block.len key.len) ∙ joined
    (mixed_column-xor 14 11 13 9 (slice_index s 0) (slice_index s 1) (slice_index s 2) (slice_index s 3)
    (slice_index k 0) (slice_index k 1) (slice_index k 2) (slice_index k 3) (byte_of s block 0) (byte_of s block 1)
    (byte_of s block 2) (byte_of s block 3) (byte_of k key 0) (byte_of k key 1) (byte_of k key 2)
    (byte_of k key 3))
    (mixed_column-xor 14 11 13 9 (slice_index s 4) (slice_index s 5) (slice_index s 6) (slice_index s 7)
    (slice_index k 4) (slice_index k 5) (slice_index k 6) (slice_index k 7) (byte_of s block 4) (byte_of s block 5)
    (byte_of s block 6) (byte_of s block 7) (byte_of k key 4) (byte_of k key 5) (byte_of k key 6)
    (byte_of k key 7))
    (mixed_column-xor 14 11 13 9 (slice_index s 8) (slice_index s 9) (slice_index s 10) (slice_index s 11)
    (slice_index k 8) (slice_index k 9) (slice_index k 10) (slice_index k 11) (byte_of s block 8)
    (byte_of s block 9) (byte_of s block 10) (byte_of s block 11) (byte_of k key 8) (byte_of k key 9)
    (byte_of k key 10) (byte_of k key 11))
    (mixed_column-xor 14 11 13 9 (slice_index s 12) (slice_index s 13) (slice_index s 14) (slice_index s 15)
    (slice_index k 12) (slice_index k 13) (slice_index k 14) (slice_index k 15) (byte_of s block 12)
    (byte_of s block 13) (byte_of s block 14) (byte_of s block 15) (byte_of k key 12) (byte_of k key 13)
    (byte_of k key 14) (byte_of k key 15))
