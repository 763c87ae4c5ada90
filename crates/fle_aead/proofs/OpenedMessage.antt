-- The message that sealed bytes open to, as a function, is what the relations say of it.
use Rattle.std.proofs.Common.{◌≡◌, ◌∙◌, ℕ, ◌-◌, ◌/◌, ◌%◌, ◌<◌, Bool, true, false, List, length, arith, ap, refl, Some}
use Rattle.std.proofs.Common.{None}
use Rattle.std.specs.Prelude.{◌&&◌, ◌==◌, nat_lt, bytes_eq}
use Rattle.std.proofs.lemmas.Bool.{eq-eqb, eqb-true}
use Rattle.std.proofs.lemmas.Bool.Decides.{nat_tests}
use Rattle.cbc_mode.specs.Padding.{pad, unpad}
use Rattle.cbc_mode.proofs.Unpadded.{eq_from, eq_yes, unpad-none, unpad-pad}
use Rattle.fle_aead.specs.Sealed.{body_of, is_sealed_length, is_tagged, opened, opened_message, tag, tag_of, IsSealed}
use Rattle.fle_aead.specs.Sealed.{IsSealedLength, IsTagged}
use Rattle.fle_aead.proofs.SealedForm.{sealed-opened, sealed-tagged}

both : (x y : Bool) → x ≡ true → y ≡ true → (x && y) ≡ true
both x y e f = rw (e, f) refl

parts : (x y : Bool) → (x && y) ≡ true → (x ≡ true) × (y ≡ true)
parts true y e = (refl, e)
parts false y e = absurd cc

below : (m n : ℕ) → m < n → nat_lt m n ≡ true
below m n h = grind (arith, nat_tests)

above : (m n : ℕ) → nat_lt m n ≡ true → m < n
above m n e = grind (arith, nat_tests)

length_test : (n : ℕ) → IsSealedLength n → is_sealed_length n ≡ true
length_test n l =
    let whole : n % 16 ≡ 0 = omega (arith, l.2) in
    both _ _ (below 48 n (omega (arith, l.1, l.2))) (eq-eqb _ _ whole)

length_from : (n : ℕ) → is_sealed_length n ≡ true → IsSealedLength n
length_from n e =
    let p = parts (nat_lt 48 n) (n % 16 == 0) e in
    let some : 48 < n = above 48 n p.0 in
    let whole : n % 16 ≡ 0 = eqb-true _ _ p.1 in
    (n / 16 - 3, omega arith, omega arith)

tag_test : (key a c : List ℕ) → IsTagged key a c → is_tagged key a c ≡ true
tag_test key a c t = both _ _ (length_test (length c) t.len) (eq_yes _ _ t.same)

tag_from : (key a c : List ℕ) → is_tagged key a c ≡ true → IsTagged key a c
tag_from key a c e =
    let p = parts (is_sealed_length (length c)) (bytes_eq (tag_of c) (tag key a (body_of c))) e in
    record { len = length_from (length c) p.0; same = eq_from _ _ p.1 }

not_tagged : (key a c : List ℕ) (b : Bool) → is_tagged key a c ≡ b → (IsTagged key a c → ⊥) → b ≡ false
not_tagged key a c true e never = absurd (never (tag_from key a c e))
not_tagged key a c false e never = refl

-- a wrong length or a wrong tag
pub message-untagged : (key a c : List ℕ) → (IsTagged key a c → ⊥) → opened_message key a c ≡ None
unfolding opened_message
message-untagged key a c never = rw (not_tagged key a c (is_tagged key a c) refl never) refl

-- a wrong padding
pub message-unpadded : (key a c : List ℕ) → IsTagged key a c → ((p : List ℕ) → opened key c ≡ pad p → ⊥)
    → opened_message key a c ≡ None
unfolding opened_message
message-unpadded key a c tagged never = rw (tag_test key a c tagged) (unpad-none (opened key c) never)

-- both right
pub message-tagged : (key a c p : List ℕ) → IsTagged key a c → opened key c ≡ pad p → opened_message key a c ≡ Some p
unfolding opened_message
message-tagged key a c p tagged is = rw (tag_test key a c tagged) (ap unpad is ∙ unpad-pad p)

-- a sealed message opens to its message
pub message-sealed : (key a iv p c : List ℕ) → IsSealed key a iv p c → opened_message key a c ≡ Some p
message-sealed key a iv p c s = message-tagged key a c p (sealed-tagged key a iv p c s) (sealed-opened key a iv p c s)
