-- The steps take blocks to blocks (FIPS 197, 3.4, 5.1 and 5.3).
use Rattle.std.proofs.Common.{◌≡◌, ℕ, ◌*◌, ◌<◌, List, [], ◌∷◌, get_or, true, inl, inr, arith, refl, ◌∙◌}
use Rattle.std.specs.Prelude.{nat_lt, slice_index}
use Rattle.std.proofs.lemmas.Nat.{xor_of_8}
use Rattle.std.proofs.lemmas.Bool.{cases_lt}
use Rattle.std.proofs.lemmas.List.{get_or_past, length-map}
use Rattle.std.proofs.lemmas.List.Elements.{All-from_recursion, All-map}
use Rattle.aes_block.specs.Field.{times_x, product_by, product, product_of_squares, inverse}
use Rattle.aes_block.specs.Substitution.{affine, inv_affine, sub_byte, inv_sub_byte}
use Rattle.aes_block.specs.Block.{IsBlock, four_words}
use Rattle.aes_block.specs.Steps.{sub_bytes, inv_sub_bytes, shift_rows, inv_shift_rows, mix_columns, inv_mix_columns}
use Rattle.aes_block.specs.Steps.{round_key, add_round_key}
use Rattle.aes_block.proofs.Computed.{passes_below, passes_at}
use Rattle.aes_block.proofs.Entries.{add_round_key-entries}
use Rattle.aes_block.proofs.Linear.{below_from_test, product_fits, sum4_fits}

-- each entry of a block is a byte, and 0 past its end is one too
pub byte_of : (s : List ℕ) → IsBlock s → (k : ℕ) → slice_index s k < 256
byte_of s block k = elim (cases_lt k 16) [
  | inl inside ↦ block.bytes k 0 (omega (arith, block.len))
  | inr past ↦
      let e : get_or s k 0 ≡ 0 = get_or_past s k 0 (omega (arith, block.len)) in
      rw e (omega arith)
]

pub IsBlock-sixteen : {a0 a1 a2 a3 a4 a5 a6 a7 a8 a9 a10 a11 a12 a13 a14 a15 : ℕ} → a0 < 256 → a1 < 256 → a2 < 256
    → a3 < 256 → a4 < 256 → a5 < 256 → a6 < 256 → a7 < 256 → a8 < 256 → a9 < 256 → a10 < 256 → a11 < 256 → a12 < 256
    → a13 < 256 → a14 < 256 → a15 < 256 → IsBlock
    (a0 ∷ a1 ∷ a2 ∷ a3 ∷ a4 ∷ a5 ∷ a6 ∷ a7 ∷ a8 ∷ a9 ∷ a10 ∷ a11 ∷ a12 ∷ a13 ∷ a14 ∷ a15 ∷ [])
IsBlock-sixteen {a0 = a0} {a1 = a1} {a2 = a2} {a3 = a3} {a4 = a4} {a5 = a5} {a6 = a6} {a7 = a7} {a8 = a8} {a9 = a9}
    {a10 = a10} {a11 = a11} {a12 = a12} {a13 = a13} {a14 = a14} {a15 = a15} h0 h1 h2 h3 h4 h5 h6 h7 h8 h9 h10 h11 h12
    h13 h14 h15 = record {
      len = refl;
      bytes = All-from_recursion (λ b. b < 256)
          (a0 ∷ a1 ∷ a2 ∷ a3 ∷ a4 ∷ a5 ∷ a6 ∷ a7 ∷ a8 ∷ a9 ∷ a10 ∷ a11 ∷ a12 ∷ a13 ∷ a14 ∷ a15 ∷ [])
          (h0, (h1, (h2, (h3, (h4, (h5, (h6, (h7, (h8, (h9, (h10, (h11, (h12, (h13, (h14, (h15, tt))))))))))))))));
    }

pub IsBlock-four_words : (w : List ℕ) (i : ℕ) → IsBlock (four_words w i)
unfolding four_words
IsBlock-four_words w i = IsBlock-sixteen
    (omega arith) (omega arith) (omega arith) (omega arith) (omega arith) (omega arith) (omega arith) (omega arith)
    (omega arith) (omega arith) (omega arith) (omega arith) (omega arith) (omega arith) (omega arith) (omega arith)

pub IsBlock-round_key : (w : List ℕ) (r : ℕ) → IsBlock (round_key w r)
unfolding round_key
IsBlock-round_key w r = IsBlock-four_words w (4 * r)

entries_fit : passes_below 256 (λ b. nat_lt (sub_byte b) 256) ≡ true
unfolding sub_byte affine inverse product_of_squares product product_by times_x
entries_fit = refl

pub sub_byte_fits : (b : ℕ) → b < 256 → sub_byte b < 256
sub_byte_fits b l = below_from_test _ _ (passes_at 256 (λ b. nat_lt (sub_byte b) 256) entries_fit b l)

inv_entries_fit : passes_below 256 (λ b. nat_lt (inv_sub_byte b) 256) ≡ true
unfolding inv_sub_byte inv_affine inverse product_of_squares product product_by times_x
inv_entries_fit = refl

pub inv_sub_byte_fits : (b : ℕ) → b < 256 → inv_sub_byte b < 256
inv_sub_byte_fits b l = below_from_test _ _ (passes_at 256 (λ b. nat_lt (inv_sub_byte b) 256) inv_entries_fit b l)

pub IsBlock-sub_bytes : (s : List ℕ) → IsBlock s → IsBlock (sub_bytes s)
unfolding sub_bytes
IsBlock-sub_bytes s block = record {
  len = length-map s sub_byte ∙ block.len;
  bytes = All-map (λ b. b < 256) sub_byte s (λ k d l. sub_byte_fits _ (block.bytes k d l));
}

pub IsBlock-shift_rows : (s : List ℕ) → IsBlock s → IsBlock (shift_rows s)
unfolding shift_rows
IsBlock-shift_rows s block = IsBlock-sixteen (byte_of s block 0) (byte_of s block 5) (byte_of s block 10)
    (byte_of s block 15) (byte_of s block 4) (byte_of s block 9) (byte_of s block 14) (byte_of s block 3)
    (byte_of s block 8) (byte_of s block 13) (byte_of s block 2) (byte_of s block 7) (byte_of s block 12)
    (byte_of s block 1) (byte_of s block 6) (byte_of s block 11)

pub IsBlock-mix_columns : (s : List ℕ) → IsBlock s → IsBlock (mix_columns s)
unfolding mix_columns
IsBlock-mix_columns s block = IsBlock-sixteen
    (sum4_fits _ _ _ _ (product_fits _ 2 (byte_of s block 0)) (product_fits _ 3 (byte_of s block 1))
    (product_fits _ 1 (byte_of s block 2)) (product_fits _ 1 (byte_of s block 3)))
    (sum4_fits _ _ _ _ (product_fits _ 2 (byte_of s block 1)) (product_fits _ 3 (byte_of s block 2))
    (product_fits _ 1 (byte_of s block 3)) (product_fits _ 1 (byte_of s block 0)))
    (sum4_fits _ _ _ _ (product_fits _ 2 (byte_of s block 2)) (product_fits _ 3 (byte_of s block 3))
    (product_fits _ 1 (byte_of s block 0)) (product_fits _ 1 (byte_of s block 1)))
    (sum4_fits _ _ _ _ (product_fits _ 2 (byte_of s block 3)) (product_fits _ 3 (byte_of s block 0))
    (product_fits _ 1 (byte_of s block 1)) (product_fits _ 1 (byte_of s block 2)))
    (sum4_fits _ _ _ _ (product_fits _ 2 (byte_of s block 4)) (product_fits _ 3 (byte_of s block 5))
    (product_fits _ 1 (byte_of s block 6)) (product_fits _ 1 (byte_of s block 7)))
    (sum4_fits _ _ _ _ (product_fits _ 2 (byte_of s block 5)) (product_fits _ 3 (byte_of s block 6))
    (product_fits _ 1 (byte_of s block 7)) (product_fits _ 1 (byte_of s block 4)))
    (sum4_fits _ _ _ _ (product_fits _ 2 (byte_of s block 6)) (product_fits _ 3 (byte_of s block 7))
    (product_fits _ 1 (byte_of s block 4)) (product_fits _ 1 (byte_of s block 5)))
    (sum4_fits _ _ _ _ (product_fits _ 2 (byte_of s block 7)) (product_fits _ 3 (byte_of s block 4))
    (product_fits _ 1 (byte_of s block 5)) (product_fits _ 1 (byte_of s block 6)))
    (sum4_fits _ _ _ _ (product_fits _ 2 (byte_of s block 8)) (product_fits _ 3 (byte_of s block 9))
    (product_fits _ 1 (byte_of s block 10)) (product_fits _ 1 (byte_of s block 11)))
    (sum4_fits _ _ _ _ (product_fits _ 2 (byte_of s block 9)) (product_fits _ 3 (byte_of s block 10))
    (product_fits _ 1 (byte_of s block 11)) (product_fits _ 1 (byte_of s block 8)))
    (sum4_fits _ _ _ _ (product_fits _ 2 (byte_of s block 10)) (product_fits _ 3 (byte_of s block 11))
    (product_fits _ 1 (byte_of s block 8)) (product_fits _ 1 (byte_of s block 9)))
    (sum4_fits _ _ _ _ (product_fits _ 2 (byte_of s block 11)) (product_fits _ 3 (byte_of s block 8))
    (product_fits _ 1 (byte_of s block 9)) (product_fits _ 1 (byte_of s block 10)))
    (sum4_fits _ _ _ _ (product_fits _ 2 (byte_of s block 12)) (product_fits _ 3 (byte_of s block 13))
    (product_fits _ 1 (byte_of s block 14)) (product_fits _ 1 (byte_of s block 15)))
    (sum4_fits _ _ _ _ (product_fits _ 2 (byte_of s block 13)) (product_fits _ 3 (byte_of s block 14))
    (product_fits _ 1 (byte_of s block 15)) (product_fits _ 1 (byte_of s block 12)))
    (sum4_fits _ _ _ _ (product_fits _ 2 (byte_of s block 14)) (product_fits _ 3 (byte_of s block 15))
    (product_fits _ 1 (byte_of s block 12)) (product_fits _ 1 (byte_of s block 13)))
    (sum4_fits _ _ _ _ (product_fits _ 2 (byte_of s block 15)) (product_fits _ 3 (byte_of s block 12))
    (product_fits _ 1 (byte_of s block 13)) (product_fits _ 1 (byte_of s block 14)))

pub IsBlock-inv_sub_bytes : (s : List ℕ) → IsBlock s → IsBlock (inv_sub_bytes s)
unfolding inv_sub_bytes
IsBlock-inv_sub_bytes s block = record {
  len = length-map s inv_sub_byte ∙ block.len;
  bytes = All-map (λ b. b < 256) inv_sub_byte s (λ k d l. inv_sub_byte_fits _ (block.bytes k d l));
}

pub IsBlock-inv_shift_rows : (s : List ℕ) → IsBlock s → IsBlock (inv_shift_rows s)
unfolding inv_shift_rows
IsBlock-inv_shift_rows s block = IsBlock-sixteen (byte_of s block 0) (byte_of s block 13) (byte_of s block 10)
    (byte_of s block 7) (byte_of s block 4) (byte_of s block 1) (byte_of s block 14) (byte_of s block 11)
    (byte_of s block 8) (byte_of s block 5) (byte_of s block 2) (byte_of s block 15) (byte_of s block 12)
    (byte_of s block 9) (byte_of s block 6) (byte_of s block 3)

pub IsBlock-inv_mix_columns : (s : List ℕ) → IsBlock s → IsBlock (inv_mix_columns s)
unfolding inv_mix_columns
IsBlock-inv_mix_columns s block = IsBlock-sixteen
    (sum4_fits _ _ _ _ (product_fits _ 14 (byte_of s block 0)) (product_fits _ 11 (byte_of s block 1))
    (product_fits _ 13 (byte_of s block 2)) (product_fits _ 9 (byte_of s block 3)))
    (sum4_fits _ _ _ _ (product_fits _ 14 (byte_of s block 1)) (product_fits _ 11 (byte_of s block 2))
    (product_fits _ 13 (byte_of s block 3)) (product_fits _ 9 (byte_of s block 0)))
    (sum4_fits _ _ _ _ (product_fits _ 14 (byte_of s block 2)) (product_fits _ 11 (byte_of s block 3))
    (product_fits _ 13 (byte_of s block 0)) (product_fits _ 9 (byte_of s block 1)))
    (sum4_fits _ _ _ _ (product_fits _ 14 (byte_of s block 3)) (product_fits _ 11 (byte_of s block 0))
    (product_fits _ 13 (byte_of s block 1)) (product_fits _ 9 (byte_of s block 2)))
    (sum4_fits _ _ _ _ (product_fits _ 14 (byte_of s block 4)) (product_fits _ 11 (byte_of s block 5))
    (product_fits _ 13 (byte_of s block 6)) (product_fits _ 9 (byte_of s block 7)))
    (sum4_fits _ _ _ _ (product_fits _ 14 (byte_of s block 5)) (product_fits _ 11 (byte_of s block 6))
    (product_fits _ 13 (byte_of s block 7)) (product_fits _ 9 (byte_of s block 4)))
    (sum4_fits _ _ _ _ (product_fits _ 14 (byte_of s block 6)) (product_fits _ 11 (byte_of s block 7))
    (product_fits _ 13 (byte_of s block 4)) (product_fits _ 9 (byte_of s block 5)))
    (sum4_fits _ _ _ _ (product_fits _ 14 (byte_of s block 7)) (product_fits _ 11 (byte_of s block 4))
    (product_fits _ 13 (byte_of s block 5)) (product_fits _ 9 (byte_of s block 6)))
    (sum4_fits _ _ _ _ (product_fits _ 14 (byte_of s block 8)) (product_fits _ 11 (byte_of s block 9))
    (product_fits _ 13 (byte_of s block 10)) (product_fits _ 9 (byte_of s block 11)))
    (sum4_fits _ _ _ _ (product_fits _ 14 (byte_of s block 9)) (product_fits _ 11 (byte_of s block 10))
    (product_fits _ 13 (byte_of s block 11)) (product_fits _ 9 (byte_of s block 8)))
    (sum4_fits _ _ _ _ (product_fits _ 14 (byte_of s block 10)) (product_fits _ 11 (byte_of s block 11))
    (product_fits _ 13 (byte_of s block 8)) (product_fits _ 9 (byte_of s block 9)))
    (sum4_fits _ _ _ _ (product_fits _ 14 (byte_of s block 11)) (product_fits _ 11 (byte_of s block 8))
    (product_fits _ 13 (byte_of s block 9)) (product_fits _ 9 (byte_of s block 10)))
    (sum4_fits _ _ _ _ (product_fits _ 14 (byte_of s block 12)) (product_fits _ 11 (byte_of s block 13))
    (product_fits _ 13 (byte_of s block 14)) (product_fits _ 9 (byte_of s block 15)))
    (sum4_fits _ _ _ _ (product_fits _ 14 (byte_of s block 13)) (product_fits _ 11 (byte_of s block 14))
    (product_fits _ 13 (byte_of s block 15)) (product_fits _ 9 (byte_of s block 12)))
    (sum4_fits _ _ _ _ (product_fits _ 14 (byte_of s block 14)) (product_fits _ 11 (byte_of s block 15))
    (product_fits _ 13 (byte_of s block 12)) (product_fits _ 9 (byte_of s block 13)))
    (sum4_fits _ _ _ _ (product_fits _ 14 (byte_of s block 15)) (product_fits _ 11 (byte_of s block 12))
    (product_fits _ 13 (byte_of s block 13)) (product_fits _ 9 (byte_of s block 14)))

pub IsBlock-add_round_key : (s k : List ℕ) → IsBlock s → IsBlock k → IsBlock (add_round_key s k)
IsBlock-add_round_key s k block key =
    let e = add_round_key-entries s k block.len key.len in
    rw e (IsBlock-sixteen (xor_of_8 _ _ (byte_of s block 0) (byte_of k key 0))
    (xor_of_8 _ _ (byte_of s block 1) (byte_of k key 1)) (xor_of_8 _ _ (byte_of s block 2) (byte_of k key 2))
    (xor_of_8 _ _ (byte_of s block 3) (byte_of k key 3)) (xor_of_8 _ _ (byte_of s block 4) (byte_of k key 4))
    (xor_of_8 _ _ (byte_of s block 5) (byte_of k key 5))
    (xor_of_8 _ _ (byte_of s block 6) (byte_of k key 6))
    (xor_of_8 _ _ (byte_of s block 7) (byte_of k key 7))
    (xor_of_8 _ _ (byte_of s block 8) (byte_of k key 8))
    (xor_of_8 _ _ (byte_of s block 9) (byte_of k key 9))
    (xor_of_8 _ _ (byte_of s block 10) (byte_of k key 10))
    (xor_of_8 _ _ (byte_of s block 11) (byte_of k key 11))
    (xor_of_8 _ _ (byte_of s block 12) (byte_of k key 12))
    (xor_of_8 _ _ (byte_of s block 13) (byte_of k key 13))
    (xor_of_8 _ _ (byte_of s block 14) (byte_of k key 14))
    (xor_of_8 _ _ (byte_of s block 15) (byte_of k key 15)))
