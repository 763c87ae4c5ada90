-- A list of 16 as its entries, and the steps on it entry by entry.
use Rattle.std.proofs.Common.{◌≡◌, ℕ, List, [], ◌∷◌, ◌++◌, length, arith, refl, ap, ◌∙◌}
use Rattle.std.specs.Prelude.{bit_xor}
use Rattle.aes_block.specs.Substitution.{sub_byte, inv_sub_byte}
use Rattle.aes_block.specs.Steps.{cell, state, sub_bytes, inv_sub_bytes, add_round_key}

-- a list of 16 is the state of its cells
pub sixteen : (s : List ℕ) → length s ≡ 16 → s ≡ state (cell s)
sixteen [] q = absurd (omega arith)
sixteen (a ∷ []) q = absurd (omega arith)
sixteen (a ∷ b ∷ []) q = absurd (omega arith)
sixteen (a ∷ b ∷ c ∷ []) q = absurd (omega arith)
sixteen (a ∷ b ∷ c ∷ d ∷ []) q = absurd (omega arith)
sixteen (a ∷ b ∷ c ∷ d ∷ e ∷ []) q = absurd (omega arith)
sixteen (a ∷ b ∷ c ∷ d ∷ e ∷ f ∷ []) q = absurd (omega arith)
sixteen (a ∷ b ∷ c ∷ d ∷ e ∷ f ∷ g ∷ []) q = absurd (omega arith)
sixteen (a ∷ b ∷ c ∷ d ∷ e ∷ f ∷ g ∷ h ∷ []) q = absurd (omega arith)
sixteen (a ∷ b ∷ c ∷ d ∷ e ∷ f ∷ g ∷ h ∷ i ∷ []) q = absurd (omega arith)
sixteen (a ∷ b ∷ c ∷ d ∷ e ∷ f ∷ g ∷ h ∷ i ∷ j ∷ []) q = absurd (omega arith)
sixteen (a ∷ b ∷ c ∷ d ∷ e ∷ f ∷ g ∷ h ∷ i ∷ j ∷ k ∷ []) q = absurd (omega arith)
sixteen (a ∷ b ∷ c ∷ d ∷ e ∷ f ∷ g ∷ h ∷ i ∷ j ∷ k ∷ l ∷ []) q = absurd (omega arith)
sixteen (a ∷ b ∷ c ∷ d ∷ e ∷ f ∷ g ∷ h ∷ i ∷ j ∷ k ∷ l ∷ m ∷ []) q = absurd (omega arith)
sixteen (a ∷ b ∷ c ∷ d ∷ e ∷ f ∷ g ∷ h ∷ i ∷ j ∷ k ∷ l ∷ m ∷ n ∷ []) q = absurd (omega arith)
sixteen (a ∷ b ∷ c ∷ d ∷ e ∷ f ∷ g ∷ h ∷ i ∷ j ∷ k ∷ l ∷ m ∷ n ∷ o ∷ []) q = absurd (omega arith)
sixteen (a ∷ b ∷ c ∷ d ∷ e ∷ f ∷ g ∷ h ∷ i ∷ j ∷ k ∷ l ∷ m ∷ n ∷ o ∷ p ∷ []) q = refl
sixteen (a ∷ b ∷ c ∷ d ∷ e ∷ f ∷ g ∷ h ∷ i ∷ j ∷ k ∷ l ∷ m ∷ n ∷ o ∷ p ∷ q ∷ s) z = absurd (omega arith)

pub sub_bytes-entries : (s : List ℕ) → length s ≡ 16 → sub_bytes s ≡ state (λ r c. sub_byte (cell s r c))
unfolding sub_bytes
sub_bytes-entries s l = ap sub_bytes (sixteen s l)

pub inv_sub_bytes-entries : (s : List ℕ) → length s ≡ 16 → inv_sub_bytes s ≡ state (λ r c. inv_sub_byte (cell s r c))
unfolding inv_sub_bytes
inv_sub_bytes-entries s l = ap inv_sub_bytes (sixteen s l)

pub add_round_key-entries : (s k : List ℕ) → length s ≡ 16 → length k ≡ 16
    → add_round_key s k ≡ state (λ r c. bit_xor (cell s r c) (cell k r c))
unfolding add_round_key
add_round_key-entries s k l m = ap (λ x. add_round_key x k) (sixteen s l)
    ∙ ap (add_round_key (state (cell s))) (sixteen k m)

-- equal parts make equal lists
pub cons_equal : {a b : ℕ} {xs ys : List ℕ} → a ≡ b → xs ≡ ys → a ∷ xs ≡ b ∷ ys
cons_equal e f = cc

pub append_equal : {a b c d : List ℕ} → a ≡ c → b ≡ d → a ++ b ≡ c ++ d
append_equal e f = rw (e, f) refl

-- two states are equal if their bytes are
pub state_equal :
    {a0 a1 a2 a3 a4 a5 a6 a7 a8 a9 a10 a11 a12 a13 a14 a15 : ℕ}
    {b0 b1 b2 b3 b4 b5 b6 b7 b8 b9 b10 b11 b12 b13 b14 b15 : ℕ}
    → a0 ≡ b0 → a1 ≡ b1 → a2 ≡ b2 → a3 ≡ b3 → a4 ≡ b4 → a5 ≡ b5 → a6 ≡ b6 → a7 ≡ b7 → a8 ≡ b8 → a9 ≡ b9 → a10 ≡ b10
    → a11 ≡ b11 → a12 ≡ b12 → a13 ≡ b13 → a14 ≡ b14 → a15 ≡ b15
    → a0 ∷ a1 ∷ a2 ∷ a3 ∷ a4 ∷ a5 ∷ a6 ∷ a7 ∷ a8 ∷ a9 ∷ a10 ∷ a11 ∷ a12 ∷ a13 ∷ a14 ∷ a15 ∷ []
    ≡ b0 ∷ b1 ∷ b2 ∷ b3 ∷ b4 ∷ b5 ∷ b6 ∷ b7 ∷ b8 ∷ b9 ∷ b10 ∷ b11 ∷ b12 ∷ b13 ∷ b14 ∷ b15 ∷ []
state_equal e0 e1 e2 e3 e4 e5 e6 e7 e8 e9 e10 e11 e12 e13 e14 e15 = cc
