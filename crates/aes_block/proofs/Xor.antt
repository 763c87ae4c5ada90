-- Sums of bytes in another order, and of words byte by byte.
use Rattle.std.proofs.Common.{◌≡◌, ℕ, [], ◌∷◌, ap, sym, ◌∙◌}
use Rattle.std.specs.Prelude.{bit_xor}
use Rattle.std.specs.Int.Bits.{xor_assoc}
use Rattle.std.proofs.lemmas.Nat.{xor_comm}
use Rattle.aes_block.specs.Steps.{sum4}

-- (p + q) + (r + s) = (q + r) + (s + p)
pub sum4-turned : (p q r s : ℕ) → sum4 p q r s ≡ sum4 q r s p
sum4-turned p q r s =
    xor_assoc p q (bit_xor r s)
    ∙ xor_comm p (bit_xor q (bit_xor r s))
    ∙ ap (λ x. bit_xor x p) (sym (xor_assoc q r s))
    ∙ xor_assoc (bit_xor q r) s p

pub four_equal : {a b c d p q r s : ℕ} → a ≡ p → b ≡ q → c ≡ r → d ≡ s → a ∷ b ∷ c ∷ d ∷ [] ≡ p ∷ q ∷ r ∷ s ∷ []
four_equal e f g h = cc
