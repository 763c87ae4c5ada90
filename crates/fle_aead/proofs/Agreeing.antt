-- The or of the differences of two lists is 0 exactly where they are equal.
use Rattle.std.proofs.Common.{◌≡◌, ◌↔◌, ◌∙◌, ℕ, ◌+◌, ◌<◌, ◌≤◌, List, length, get_or, inl, inr, arith, ap, sym}
use Rattle.std.specs.Prelude.{bit_or, bit_xor}
use Rattle.std.proofs.lemmas.Bool.{cases_lt}
use Rattle.std.proofs.lemmas.Grind.{same_number_lists}
use lib.Bits.{xor_self}
use Rattle.cbc_mode.proofs.Differences.{or_none, or_zeros, xor_none}

-- two lists agree before a place
abbrev pub AgreeTo : List ℕ → List ℕ → ℕ → Type 0
AgreeTo a b i = (k : ℕ) → k < i → get_or a k 0 ≡ get_or b k 0

-- one place further
pub agree_next : (a b : List ℕ) (i d : ℕ) → ((d ≡ 0) ↔ AgreeTo a b i)
    → (bit_or d (bit_xor (get_or a i 0) (get_or b i 0)) ≡ 0) ↔ AgreeTo a b (i + 1)
agree_next a b i d h = (
  λ e k below.
      let none = or_none d (bit_xor (get_or a i 0) (get_or b i 0)) e in
      elim (cases_lt k i) [
        | inl before ↦ h.0 none.0 k before
        | inr past ↦
            let at : k ≡ i = omega arith in
            rw at (xor_none _ _ none.1)
      ],
  λ all. or_zeros _ _ (h.1 (λ k below. all k (omega arith)))
      (ap (λ x. bit_xor x (get_or b i 0)) (all i (omega arith)) ∙ xor_self (get_or b i 0)),
)

-- lists of one length that agree before their ends are equal
pub agree_all : (a b : List ℕ) (n i : ℕ) → length a ≡ n → length b ≡ n → n ≤ i → AgreeTo a b i → a ≡ b
agree_all a b n i la lb end h = same_number_lists a b (la ∙ sym lb) (λ k below. h k (omega arith))
