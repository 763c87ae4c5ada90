-- Sums in another order.
use Rattle.std.proofs.Common.{◌≡◌, ℕ, ap, sym, refl, ◌∙◌}
use Rattle.std.specs.Prelude.{bit_xor}
use Rattle.std.proofs.lemmas.Nat.{xor_comm}
use lib.Bits.{xor_assoc, xor_self, xor_zero_l, xor_zero_r}

xor_left : (a b c : ℕ) → bit_xor a (bit_xor b c) ≡ bit_xor b (bit_xor a c)
xor_left a b c = sym (xor_assoc a b c) ∙ ap (λ x. bit_xor x c) (xor_comm a b) ∙ xor_assoc b a c

xor_twice : (a b : ℕ) → bit_xor a (bit_xor a b) ≡ b
xor_twice a b = sym (xor_assoc a a b) ∙ ap (λ x. bit_xor x b) (xor_self a)

-- a byte after MixColumns with its key, as the shuffles sum it: a and d are the transformed bytes and their doubles, c
-- and e the transformed constants, k the transformed key
pub lane_sum : (d0 d1 a1 a2 a3 c e k0 k1 k2 k3 : ℕ)
    → bit_xor (bit_xor (bit_xor (bit_xor d0 e) (bit_xor (bit_xor a1 c) (bit_xor (bit_xor k2 k3) (bit_xor k0 c))))
    (bit_xor (bit_xor a3 c) (bit_xor (bit_xor (bit_xor k0 c) k1) k2)))
    (bit_xor (bit_xor d1 e) (bit_xor (bit_xor a2 c) (bit_xor (bit_xor k3 (bit_xor k0 c)) k1)))
    ≡ bit_xor (bit_xor (bit_xor d0 (bit_xor d1 a1)) (bit_xor a2 a3)) k0
lane_sum d0 d1 a1 a2 a3 c e k0 k1 k2 k3 = simp (xor_assoc, xor_comm, xor_left, xor_twice, xor_self, xor_zero_l) refl

pub last_sum : (a k c : ℕ) → bit_xor (bit_xor a c) (bit_xor k c) ≡ bit_xor a k
last_sum a k c = simp (xor_assoc, xor_comm, xor_left, xor_self, xor_zero_l) refl

pub xor_right : (a b c : ℕ) → bit_xor (bit_xor a b) c ≡ bit_xor (bit_xor a c) b
xor_right a b c = xor_assoc a b c ∙ ap (bit_xor a) (xor_comm b c) ∙ sym (xor_assoc a c b)

pub last_cancelled : (a c : ℕ) → bit_xor (bit_xor a c) c ≡ a
last_cancelled a c = xor_assoc a c c ∙ ap (bit_xor a) (xor_self c) ∙ xor_zero_r a

pub open_lane_sum : (a b c d k : ℕ) → bit_xor (bit_xor (bit_xor a k) c) (bit_xor b d)
    ≡ bit_xor (bit_xor (bit_xor a b) (bit_xor c d)) k
open_lane_sum a b c d k = simp (xor_assoc, xor_comm, xor_left) refl
