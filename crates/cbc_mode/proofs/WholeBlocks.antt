-- Blocks that the cipher and the chain make of blocks.
use Rattle.std.proofs.Common.{◌≡◌, ℕ, zero, suc, ◌<◌, ◌≤◌, List, [], ◌∷◌, length, take, arith, ap, ◌∙◌, refl, bit_xor}
use Rattle.std.specs.List.{All}
use Rattle.std.specs.Int.Bits.{xor_assoc, xor_self, xor_zero_r}
use Rattle.std.proofs.lemmas.List.{length-take-le}
use Rattle.std.proofs.lemmas.List.Elements.{All-take}
use Rattle.aes_block.specs.Block.{IsBlock, xor_bytes}
use Rattle.aes_block.specs.Cipher.{cipher, rounds}
use Rattle.aes_block.specs.Steps.{add_round_key}
use Rattle.aes_block.proofs.Blocks.{IsBlock-add_round_key, IsBlock-mix_columns, IsBlock-round_key, IsBlock-shift_rows}
use Rattle.aes_block.proofs.Blocks.{IsBlock-sub_bytes}

pub IsBlock-rounds : (w b : List ℕ) (r : ℕ) → IsBlock b → IsBlock (rounds w b r)
unfolding rounds
IsBlock-rounds w b zero block = IsBlock-add_round_key _ _ block (IsBlock-round_key w 0)
IsBlock-rounds w b (suc r) block =
    IsBlock-add_round_key _ _ (IsBlock-mix_columns _
    (IsBlock-shift_rows _ (IsBlock-sub_bytes _ (IsBlock-rounds w b r block))))
    (IsBlock-round_key w (suc r))

-- FIPS 197, 5.1: the cipher makes a block of a block
pub IsBlock-cipher : (w b : List ℕ) → IsBlock b → IsBlock (cipher w b)
unfolding cipher
IsBlock-cipher w b block =
    IsBlock-add_round_key _ _ (IsBlock-shift_rows _ (IsBlock-sub_bytes _ (IsBlock-rounds w b 13 block)))
    (IsBlock-round_key w 14)

pub IsBlock-xor_bytes : (a b : List ℕ) → IsBlock a → IsBlock b → IsBlock (xor_bytes a b)
unfolding add_round_key
IsBlock-xor_bytes a b = IsBlock-add_round_key a b

-- the first block of a list of bytes
pub IsBlock-take : (p : List ℕ) → All (λ b. b < 256) p → 16 ≤ length p → IsBlock (take 16 p)
IsBlock-take p bytes long = record {
  len = length-take-le 16 p long;
  bytes = All-take (λ b. b < 256) 16 p bytes;
}

xor_twice : (x y : ℕ) → bit_xor (bit_xor x y) y ≡ x
xor_twice x y = xor_assoc x y y ∙ ap (bit_xor x) (xor_self y) ∙ xor_zero_r x

-- adding the same bytes twice adds nothing
pub xor_bytes-xor_bytes : (a b : List ℕ) → length a ≤ length b → xor_bytes (xor_bytes a b) b ≡ a
xor_bytes-xor_bytes [] b l = refl
xor_bytes-xor_bytes (x ∷ a) [] l = absurd (omega arith)
xor_bytes-xor_bytes (x ∷ a) (y ∷ b) l =
    ap (λ s. bit_xor (bit_xor x y) y ∷ s) (xor_bytes-xor_bytes a b (omega arith)) ∙ ap (λ n. n ∷ a) (xor_twice x y)
