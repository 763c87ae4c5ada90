-- Code with its scope, and the texts of both.
use Rattle.std.proofs.Common.{◌≡◌, ℕ, ◌-◌, ◌+◌, ◌<◌, ◌^◌, ◌==◌, inl, inr, true, not, ◌||◌, Bool, List, [], ◌∷◌, ◌++◌}
use Rattle.std.proofs.Common.{length, take, drop, Some, refl, sym, ap, ◌∙◌, arith, append_assoc}
use Rattle.std.proofs.lemmas.List.{take_at, drop_at, length-append}
use Rattle.std.proofs.lemmas.Bool.Decides.{eqb_tells}
use Rattle.std.proofs.lemmas.Nat.{from_le_bytes-to_le_bytes_4}
use Rattle.std.specs.Int.{from_le_bytes, to_le_bytes, w32}
use Rattle.std.specs.Str.{is_utf8}
use Rattle.bson_tree.specs.Tree.{Items}
use Rattle.bson_tree.specs.Spelling.{doc_bytes}
use Rattle.bson_codec.specs.Layout.{IsDoc, string_bytes, scope_bytes}
use Rattle.bson_codec.proofs.Views.{doc_of_spelling}
use Rattle.ext_json.specs.declared.form.Form.TheVariants as forms
use Rattle.ext_json.specs.BadText.{is_bad_leaf}
use Rattle.ext_json.specs.Fixed.{head_text, middle_text, tail_text}
use Rattle.ext_json.specs.Forms.{form_of}
use Rattle.ext_json.specs.Parts.{text_of, string_width, code_of, scope_of}
use Rattle.ext_json.specs.Quoted.{quoted}
use Rattle.ext_json.specs.Text.{leaf_text}

pub text_of_string : (text : List ℕ) → text_of (string_bytes text) ≡ text
text_of_string text =
    let less : length (string_bytes text) - 5 ≡ length text = omega (arith, length-append text (0 ∷ [])) in
    ap (λ (n : ℕ). take n (text ++ 0 ∷ [])) less ∙ take_at text (0 ∷ []) (length text) refl

pub width_of_string : (text rest : List ℕ) → length text + 1 < 2 ^ 31
    → string_width (string_bytes text ++ rest) ≡ length (string_bytes text)
width_of_string text rest small =
    let value : from_le_bytes w32 (to_le_bytes w32 (length text + 1)) ≡ length text + 1 =
    from_le_bytes-to_le_bytes_4 (length text + 1) (omega (arith, small)) in
    omega (arith, value, length-append text (0 ∷ []))

-- the code and the scope that were laid out
pub scope_parts : (bs code : List ℕ) (scope : Items) → bs ≡ scope_bytes code scope → length bs < 2 ^ 31 → IsDoc scope
    → (code_of bs ≡ code) × (scope_of bs ≡ scope)
scope_parts bs code scope is small doc =
    let inside : drop 4 bs ≡ string_bytes code ++ doc_bytes scope = ap (drop 4) is in
    let fits : length code + 1 < 2 ^ 31 = omega (
      arith,
      small,
      ap length is,
      length-append (string_bytes code) (doc_bytes scope),
      length-append code (0 ∷ []),
    ) in
    let wide : string_width (drop 4 bs) ≡ length (string_bytes code) =
    ap string_width inside ∙ width_of_string code (doc_bytes scope) fits in
    let front : take (string_width (drop 4 bs)) (drop 4 bs) ≡ string_bytes code =
    rw (wide, inside) (take_at (string_bytes code) (doc_bytes scope) (length (string_bytes code)) refl) in
    let back : drop (string_width (drop 4 bs)) (drop 4 bs) ≡ doc_bytes scope =
    rw (wide, inside) (drop_at (string_bytes code) (doc_bytes scope) (length (string_bytes code)) refl) in
    (ap text_of front ∙ text_of_string code, doc_of_spelling _ scope doc back)

pub is_fifteen : (tag : ℕ) → (tag == 15) ≡ true → tag ≡ 15
is_fifteen tag e = elim (eqb_tells tag 15) [ inl t ↦ t.1 | inr f ↦ absurd cc ]

form_fifteen : form_of 15 ≡ Some forms.Scope
unfolding form_of
form_fifteen = refl

pub scope_text : (D : Items → List ℕ) (tag : ℕ) (bs code : List ℕ) (scope : Items) → tag ≡ 15
    → bs ≡ scope_bytes code scope → length bs < 2 ^ 31 → IsDoc scope
    → leaf_text D (form_of tag) bs ≡ head_text forms.Scope
    ++ ((quoted code ++ (middle_text forms.Scope ++ D scope)) ++ tail_text forms.Scope)
scope_text D tag bs code scope this is small doc =
    let parts = scope_parts bs code scope is small doc in
    rw (this, form_fifteen, parts.0, parts.1) refl

pub scope_grouped : (head code middle inside tail : List ℕ)
    → head ++ ((code ++ (middle ++ inside)) ++ tail) ≡ (head ++ (code ++ middle)) ++ (inside ++ tail)
scope_grouped head code middle inside tail =
    let within : (code ++ (middle ++ inside)) ++ tail ≡ (code ++ middle) ++ (inside ++ tail) =
    ap (λ (x : List ℕ). x ++ tail) (sym (append_assoc code middle inside))
    ∙ append_assoc (code ++ middle) inside tail in
    ap (λ (x : List ℕ). head ++ x) within ∙ sym (append_assoc head (code ++ middle) (inside ++ tail))

pub scope_bad : (B : ℕ → Items → Bool) (at tag : ℕ) (bs code : List ℕ) (scope : Items) → tag ≡ 15
    → bs ≡ scope_bytes code scope → length bs < 2 ^ 31 → IsDoc scope
    → is_bad_leaf B at (form_of tag) bs ≡ not (is_utf8 code) || B (at + (length code + 9)) scope
scope_bad B at tag bs code scope this is small doc =
    let parts = scope_parts bs code scope is small doc in
    rw (this, form_fifteen, parts.0, parts.1) refl
