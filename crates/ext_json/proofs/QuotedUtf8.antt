-- Strings that are UTF-8 (RFC 3629) are so in quotes too.
use Rattle.std.proofs.Common.{◌≡◌, ℕ, zero, suc, ◌<◌, ◌≤◌, ◌==◌, Bool, true, false, ◌&&◌, nat_lt, List, [], ◌∷◌, ◌++◌}
use Rattle.std.proofs.Common.{length, get_or, IsUtf8, inl, inr, refl, sym, ap₂, ◌∙◌, subst, arith, append-nil, ltb-true}
use Rattle.std.proofs.lemmas.Bool.{and_parts, cases_lt, cases_eq}
use Rattle.std.proofs.lemmas.Bool.Decides.{eqb_tells}
use Rattle.std.proofs.lemmas.Str.{IsUtf8-append, IsUtf8-nil, IsUtf8-encode, encode_ascii, inside_one}
use lib.Utf8.{scalar, scalars, encode, encodes, low_scalar}
use Rattle.hex.specs.Hex.{encode_with}
use Rattle.ext_json.specs.Quoted.{control_start, quote_mark, escape, escaped, quoted}
use Rattle.ext_json.proofs.Escapes.{escaped-append, escaped_one, escaped_nil}

-- each byte is below 128
abbrev pub are_ascii : List ℕ → Bool
are_ascii [] = true
are_ascii (x ∷ xs) = nat_lt x 128 && are_ascii xs

pub ascii_then : (x : ℕ) (xs : List ℕ) → x < 128 → IsUtf8 xs → IsUtf8 (x ∷ xs)
ascii_then x xs small u = IsUtf8-append (x ∷ []) xs
    (subst IsUtf8 (encode_ascii x small) (IsUtf8-encode x (low_scalar x (omega arith)))) u

pub ascii_utf8 : (xs : List ℕ) → are_ascii xs ≡ true → IsUtf8 xs
ascii_utf8 [] e = IsUtf8-nil
ascii_utf8 (x ∷ xs) e = let p = and_parts _ _ e in ascii_then x xs (ltb-true _ _ p.0) (ascii_utf8 xs p.1)

-- the escapes of the bytes below n are ASCII
abbrev escapes_below : ℕ → Bool
escapes_below zero = true
escapes_below (suc n) = are_ascii (escape n) && escapes_below n

escape_below : (n : ℕ) → escapes_below n ≡ true → (x : ℕ) → x < n → are_ascii (escape x) ≡ true
escape_below zero e x h = absurd (omega arith)
escape_below (suc n) e x h =
    let p = and_parts _ _ e in
    elim (cases_eq x n) [ inl same ↦ rw same p.0 | inr other ↦ escape_below n p.1 x (omega arith) ]

all_ascii : escapes_below 128 ≡ true
unfolding control_start encode_with
all_ascii = refl

differs : (x n : ℕ) → n < x → (x == n) ≡ false
differs x n more = elim (eqb_tells x n) [ inl t ↦ absurd (omega (arith, t.1, more)) | inr f ↦ f.0 ]

not_below : (x : ℕ) → 128 ≤ x → nat_lt x 32 ≡ false
not_below x high = untrue (nat_lt x 32) (λ e. omega (arith, ltb-true x 32 e, high))
  where
    untrue : (b : Bool) → (b ≡ true → ⊥) → b ≡ false
    untrue true never = absurd (never refl)
    untrue false never = refl

escape_plain : (x : ℕ) → 128 ≤ x → escape x ≡ x ∷ []
escape_plain x high = rw (differs x 34 (omega (arith, high)), differs x 92 (omega (arith, high)), not_below x high) refl

escaped_high : (xs : List ℕ) → ((k : ℕ) → k < length xs → 128 ≤ get_or xs k 0) → escaped xs ≡ xs
escaped_high [] h = escaped_nil
escaped_high (x ∷ xs) h =
    let high : 128 ≤ x = h 0 (omega arith) in
    escaped-append (x ∷ []) xs ∙ ap₂ (λ (a b : List ℕ). a ++ b) (escaped_one x ∙ escape_plain x high)
    (escaped_high xs (λ k below. h (suc k) (omega arith)))

one_char : (c : ℕ) → scalar c ≡ true → IsUtf8 (escaped (encode c))
one_char c ok = elim (cases_lt c 128) [
  | inl small ↦ rw (encode_ascii c small, escaped_one c) (ascii_utf8 (escape c) (escape_below 128 all_ascii c small))
  | inr big ↦
      let high : (k : ℕ) → k < length (encode c) → 128 ≤ get_or (encode c) k 0 =
      λ k below. elim (cases_lt (get_or (encode c) k 0) 128) [
        | inl low ↦ absurd (omega (arith, inside_one c [] (encode c) k (sym (append-nil _)) below low))
        | inr h ↦ h
      ] in
      subst IsUtf8 (sym (escaped_high (encode c) high)) (IsUtf8-encode c ok)
]

all_chars : (cs : List ℕ) → scalars cs ≡ true → IsUtf8 (escaped (encodes cs))
all_chars [] e = subst IsUtf8 (sym escaped_nil) IsUtf8-nil
all_chars (c ∷ cs) e =
    let p = and_parts _ _ e in
    subst IsUtf8 (sym (escaped-append (encode c) (encodes cs))) (IsUtf8-append _ _ (one_char c p.0) (all_chars cs p.1))

pub escaped_utf8 : (s : List ℕ) → IsUtf8 s → IsUtf8 (escaped s)
escaped_utf8 s u = subst (λ l. IsUtf8 (escaped l)) u.1.1 (all_chars u.0 u.1.0)

mark_utf8 : IsUtf8 quote_mark
unfolding quote_mark
mark_utf8 = ascii_utf8 (34 ∷ []) refl

pub quoted_utf8 : (s : List ℕ) → IsUtf8 s → IsUtf8 (quoted s)
quoted_utf8 s u = IsUtf8-append quote_mark (escaped s ++ quote_mark) mark_utf8
    (IsUtf8-append (escaped s) quote_mark (escaped_utf8 s u) mark_utf8)
