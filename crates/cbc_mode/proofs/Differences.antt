-- The or of differences is 0 exactly where there are none.
use Rattle.std.proofs.Common.{◌≡◌, ◌↔◌, ◌∙◌, ℕ, ◌+◌, ◌<◌, ◌≤◌, List, get_or, inl, inr, arith, ap, sym, refl, true}
use Rattle.std.specs.Prelude.{bit_and, bit_or, bit_xor, ◌==◌}
use Rattle.std.specs.Int.Bits.{or_zero_l}
use Rattle.std.proofs.lemmas.Bool.{cases_lt}
use Rattle.std.proofs.lemmas.Nat.{le_or_l, le_or_r}
use lib.Bits.{xor_assoc, xor_self, xor_zero_l, xor_zero_r}
use Rattle.aes_block.proofs.Computed.{passes_below, same_below}

pub or_none : (a b : ℕ) → bit_or a b ≡ 0 → (a ≡ 0) × (b ≡ 0)
or_none a b e = (omega (arith, le_or_l a b, e), omega (arith, le_or_r a b, e))

pub xor_none : (a b : ℕ) → bit_xor a b ≡ 0 → a ≡ b
xor_none a b e =
    sym (xor_zero_r a) ∙ ap (bit_xor a) (sym e) ∙ sym (xor_assoc a a b) ∙ ap (λ x. bit_xor x b) (xor_self a)
    ∙ xor_zero_l b

pub or_zeros : (a b : ℕ) → a ≡ 0 → b ≡ 0 → bit_or a b ≡ 0
or_zeros a b e f = rw (e, f) (or_zero_l 0)

all_masked : passes_below 256 (λ b. bit_and 255 b == b) ≡ true
all_masked = refl

-- all bits of a byte are kept
pub masked : (b : ℕ) → b < 256 → bit_and 255 b ≡ b
masked b l = same_below 256 (λ b. bit_and 255 b) (λ b. b) all_masked b l

-- the bytes from place n on, up to place i, have a value
abbrev pub EndsTo : List ℕ → ℕ → ℕ → ℕ → Type 0
EndsTo b n v i = (k : ℕ) → n ≤ k → k < i → get_or b k 0 ≡ v

-- one place further
pub ends_next : (b : List ℕ) (n v i d x : ℕ) → (n ≤ i → x ≡ bit_xor (get_or b i 0) v) → (i < n → x ≡ 0)
    → ((d ≡ 0) ↔ EndsTo b n v i) → (bit_or d x ≡ 0) ↔ EndsTo b n v (i + 1)
ends_next b n v i d x behind before h = (
  λ e k low below.
      let none = or_none d x e in
      elim (cases_lt k i) [
        | inl inside ↦ h.0 none.0 k low inside
        | inr past ↦
            let at : k ≡ i = omega arith in
            rw at (xor_none _ _ (sym (behind (omega arith)) ∙ none.1))
      ],
  λ all.
      let d0 : d ≡ 0 = h.1 (λ k low below. all k low (omega arith)) in
      elim (cases_lt i n) [
        | inl outside ↦ or_zeros d x d0 (before outside)
        | inr inside ↦ or_zeros d x d0 (behind inside ∙ ap (λ z. bit_xor z v) (all i inside (omega arith)) ∙ xor_self v)
      ],
)
