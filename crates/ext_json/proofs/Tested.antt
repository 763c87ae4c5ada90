-- A test for UTF-8 (RFC 3629), as a truth value.
use Rattle.std.proofs.Common.{◌≡◌, ◌↔◌, ℕ, true, false, IsUtf8, Bool, List, refl, sym}
use Rattle.std.proofs.lemmas.Bool.{false≢true}
use Rattle.std.proofs.lemmas.Str.{IsUtf8-from_is_utf8, is_utf8-from_IsUtf8}
use Rattle.std.specs.Str.{is_utf8}

not_text : (b : Bool) → (b ≡ true → ⊥) → false ≡ b
not_text true never = absurd (never refl)
not_text false never = refl

pub text_tested : (b : Bool) (bs : List ℕ) → (b ≡ true) ↔ IsUtf8 bs → b ≡ is_utf8 bs
text_tested true bs h = sym (is_utf8-from_IsUtf8 bs (h.0 refl))
text_tested false bs h = not_text (is_utf8 bs) (λ e. false≢true (h.1 (IsUtf8-from_is_utf8 bs e)))
