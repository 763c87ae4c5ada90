-- The text of a document without a bad place is UTF-8 (RFC 3629).
use Rattle.std.proofs.Common.{◌≡◌, ℕ, ℤ, pos, negsuc, zero, suc, ◌+◌, ◌/◌, ◌%◌, ◌<◌, ◌==◌, ◌||◌, nat_lt, arith, Bool}
use Rattle.std.proofs.Common.{true, false, not, cond, List, [], ◌∷◌, ◌++◌, length, Option, Some, None, is_some}
use Rattle.std.proofs.Common.{slice_index, IsUtf8, ltb-true, refl, sym}
use Rattle.std.proofs.lemmas.Bool.{false≢true, and_parts}
use Rattle.std.proofs.lemmas.Str.Ascii.{IsAscii-nil, IsAscii-cons}
use Rattle.std.proofs.lemmas.Str.{IsUtf8-append, IsUtf8-nil, IsUtf8-from_ascii, IsUtf8-from_is_utf8}
use Rattle.std.specs.Fmt.{decimal, digit_glyph, digits, digits_onto, signed_decimal}
use Rattle.std.specs.Str.{is_utf8, IsAscii}
use Rattle.base64.specs.Engines.{standard}
use Rattle.base64.specs.GeneralPurpose.{encode_of}
use Rattle.base64.proofs.EngineFacts.{IsAscii-encode_of}
use Rattle.hex.specs.Hex.{encode_lower, lower_digits}
use Rattle.hex.proofs.HexLemmas.{IsAscii-encode_with}
use Rattle.bson_tree.specs.Tree.{Tree, Items, leaf, node, no_items, item}
use Rattle.bson_tree.specs.Spelling.{value_bytes}
use Rattle.ext_json.specs.declared.form.Form.{Form}
use Rattle.ext_json.specs.declared.form.Form.TheVariants as forms
use Rattle.ext_json.specs.Forms.{form_of}
use Rattle.ext_json.specs.Fixed.{head_text, middle_text, tail_text, truth_text}
use Rattle.ext_json.specs.Parts.{text_of, subtype_of, contents_of, pattern_of, options_of, namespace_of, id_of}
use Rattle.ext_json.specs.Parts.{int32_of, int64_of, seconds_of, increment_of, code_of, scope_of}
use Rattle.ext_json.specs.Quoted.{quoted}
use Rattle.ext_json.specs.Text.{body_text, leaf_text, value_text, name_text, elements_text, opening_text, closing_text}
use Rattle.ext_json.specs.Text.{inside_text}
use Rattle.ext_json.specs.BadText.{is_bad_raw, is_bad_leaf, offset_if, value_bad, element_bad, or_later, elements_bad}
use Rattle.ext_json.specs.BadText.{inside_bad}
use Rattle.ext_json.proofs.QuotedUtf8.{are_ascii, ascii_then, ascii_utf8, escaped_utf8, quoted_utf8}

-- ---- fixed parts and digits

head_utf8 : (form : Form) → IsUtf8 (head_text form)
unfolding head_text
head_utf8 forms.DoubleBits = ascii_utf8 _ refl
head_utf8 forms.Text = ascii_utf8 _ refl
head_utf8 forms.Binary = ascii_utf8 _ refl
head_utf8 forms.Undefined = ascii_utf8 _ refl
head_utf8 forms.ObjectId = ascii_utf8 _ refl
head_utf8 forms.Bool = ascii_utf8 _ refl
head_utf8 forms.Date = ascii_utf8 _ refl
head_utf8 forms.Null = ascii_utf8 _ refl
head_utf8 forms.Regex = ascii_utf8 _ refl
head_utf8 forms.Pointer = ascii_utf8 _ refl
head_utf8 forms.Code = ascii_utf8 _ refl
head_utf8 forms.Symbol = ascii_utf8 _ refl
head_utf8 forms.Scope = ascii_utf8 _ refl
head_utf8 forms.Int32 = ascii_utf8 _ refl
head_utf8 forms.Timestamp = ascii_utf8 _ refl
head_utf8 forms.Int64 = ascii_utf8 _ refl
head_utf8 forms.DecimalBits = ascii_utf8 _ refl
head_utf8 forms.MaxKey = ascii_utf8 _ refl
head_utf8 forms.MinKey = ascii_utf8 _ refl

tail_utf8 : (form : Form) → IsUtf8 (tail_text form)
unfolding tail_text
tail_utf8 forms.DoubleBits = ascii_utf8 _ refl
tail_utf8 forms.Text = ascii_utf8 _ refl
tail_utf8 forms.Binary = ascii_utf8 _ refl
tail_utf8 forms.Undefined = ascii_utf8 _ refl
tail_utf8 forms.ObjectId = ascii_utf8 _ refl
tail_utf8 forms.Bool = ascii_utf8 _ refl
tail_utf8 forms.Date = ascii_utf8 _ refl
tail_utf8 forms.Null = ascii_utf8 _ refl
tail_utf8 forms.Regex = ascii_utf8 _ refl
tail_utf8 forms.Pointer = ascii_utf8 _ refl
tail_utf8 forms.Code = ascii_utf8 _ refl
tail_utf8 forms.Symbol = ascii_utf8 _ refl
tail_utf8 forms.Scope = ascii_utf8 _ refl
tail_utf8 forms.Int32 = ascii_utf8 _ refl
tail_utf8 forms.Timestamp = ascii_utf8 _ refl
tail_utf8 forms.Int64 = ascii_utf8 _ refl
tail_utf8 forms.DecimalBits = ascii_utf8 _ refl
tail_utf8 forms.MaxKey = ascii_utf8 _ refl
tail_utf8 forms.MinKey = ascii_utf8 _ refl

binary_middle : IsUtf8 (middle_text forms.Binary)
unfolding middle_text
binary_middle = ascii_utf8 _ refl

regex_middle : IsUtf8 (middle_text forms.Regex)
unfolding middle_text
regex_middle = ascii_utf8 _ refl

pointer_middle : IsUtf8 (middle_text forms.Pointer)
unfolding middle_text
pointer_middle = ascii_utf8 _ refl

scope_middle : IsUtf8 (middle_text forms.Scope)
unfolding middle_text
scope_middle = ascii_utf8 _ refl

timestamp_middle : IsUtf8 (middle_text forms.Timestamp)
unfolding middle_text
timestamp_middle = ascii_utf8 _ refl

either_utf8 : (b : Bool) (x y : List ℕ) → IsUtf8 x → IsUtf8 y → IsUtf8 (cond b x y)
either_utf8 true x y u v = u
either_utf8 false x y u v = v

truth_utf8 : (b : ℕ) → IsUtf8 (truth_text b)
unfolding truth_text
truth_utf8 b = either_utf8 (b == 0) _ _ (ascii_utf8 _ refl) (ascii_utf8 _ refl)

digit_utf8 : (d : ℕ) → d < 16 → IsUtf8 (digit_glyph false d ∷ [])
digit_utf8 d small = ascii_then (digit_glyph false d) [] (by (nat_lt d 10)) IsUtf8-nil
  where
    by : (a : Bool) → cond a (48 + d) (87 + d) < 128
    by true = omega arith
    by false = omega arith

digits_utf8 : (k n : ℕ) (behind : List ℕ) → IsUtf8 behind → IsUtf8 (digits_onto k 10 false n behind)
digits_utf8 zero n behind u = u
digits_utf8 (suc k) n behind u =
    let below : n % 10 < 16 = omega arith in
    let more = IsUtf8-append (digit_glyph false (n % 10) ∷ []) behind (digit_utf8 (n % 10) below) u in
    either_utf8 (n / 10 == 0) _ _ more (digits_utf8 k (n / 10) (digit_glyph false (n % 10) ∷ behind) more)

decimal_utf8 : (n : ℕ) → IsUtf8 (decimal n)
unfolding digits
decimal_utf8 n = digits_utf8 64 n [] IsUtf8-nil

signed_utf8 : (z : ℤ) → IsUtf8 (signed_decimal z)
signed_utf8 (pos n) = decimal_utf8 n
signed_utf8 (negsuc n) = ascii_then 45 (decimal (suc n)) (omega arith) (decimal_utf8 (suc n))

base64_utf8 : (bs : List ℕ) → IsUtf8 (encode_of standard bs)
base64_utf8 bs = IsUtf8-from_ascii (encode_of standard bs) (IsAscii-encode_of standard bs)

ascii_at : (xs : List ℕ) → are_ascii xs ≡ true → IsAscii xs
ascii_at [] e = IsAscii-nil
ascii_at (x ∷ xs) e = let p = and_parts _ _ e in IsAscii-cons x xs (ltb-true _ _ p.0) (ascii_at xs p.1)

hex_utf8 : (bs : List ℕ) → IsUtf8 (encode_lower bs)
hex_utf8 bs = IsUtf8-from_ascii (encode_lower bs) (IsAscii-encode_with lower_digits bs (ascii_at lower_digits refl))

-- ---- values

good : (bs : List ℕ) → not (is_utf8 bs) ≡ false → IsUtf8 bs
good bs e = IsUtf8-from_is_utf8 bs (by (is_utf8 bs) e)
  where
    by : (b : Bool) → not b ≡ false → b ≡ true
    by true e = refl
    by false e = absurd (false≢true (sym e))

neither : (a b : Bool) → (a || b) ≡ false → (a ≡ false) × (b ≡ false)
neither true b e = absurd (false≢true (sym e))
neither false b e = (refl, e)

two : (first middle last : List ℕ) → IsUtf8 first → IsUtf8 middle → IsUtf8 last → IsUtf8 (first ++ (middle ++ last))
two first middle last u v w = IsUtf8-append first (middle ++ last) u (IsUtf8-append middle last v w)

body_utf8 : (B : ℕ → Items → Bool) (D : Items → List ℕ) → ((at : ℕ) (is : Items) → B at is ≡ false → IsUtf8 (D is))
    → (at : ℕ) (form : Form) (bs : List ℕ) → is_bad_raw B at form bs ≡ false → IsUtf8 (body_text D form bs)
body_utf8 B D inside at forms.DoubleBits bs e = hex_utf8 bs
body_utf8 B D inside at forms.Text bs e = escaped_utf8 (text_of bs) (good (text_of bs) e)
body_utf8 B D inside at forms.Binary bs e = two _ _ _ (base64_utf8 (contents_of bs)) binary_middle
    (hex_utf8 (subtype_of bs ∷ []))
body_utf8 B D inside at forms.Undefined bs e = IsUtf8-nil
body_utf8 B D inside at forms.ObjectId bs e = hex_utf8 bs
body_utf8 B D inside at forms.Bool bs e = truth_utf8 (slice_index bs 0)
body_utf8 B D inside at forms.Date bs e = signed_utf8 (int64_of bs)
body_utf8 B D inside at forms.Null bs e = IsUtf8-nil
body_utf8 B D inside at forms.Regex bs e =
    let parts = neither (not (is_utf8 (pattern_of bs))) (not (is_utf8 (options_of bs))) e in
    two _ _ _ (quoted_utf8 (pattern_of bs) (good (pattern_of bs) parts.0)) regex_middle
    (quoted_utf8 (options_of bs) (good (options_of bs) parts.1))
body_utf8 B D inside at forms.Pointer bs e = two _ _ _
    (quoted_utf8 (namespace_of bs) (good (namespace_of bs) e)) pointer_middle (hex_utf8 (id_of bs))
body_utf8 B D inside at forms.Code bs e = quoted_utf8 (text_of bs) (good (text_of bs) e)
body_utf8 B D inside at forms.Symbol bs e = quoted_utf8 (text_of bs) (good (text_of bs) e)
body_utf8 B D inside at forms.Scope bs e =
    let parts = neither (not (is_utf8 (code_of bs))) (B (at + (length (code_of bs) + 9)) (scope_of bs)) e in
    two _ _ _ (quoted_utf8 (code_of bs) (good (code_of bs) parts.0)) scope_middle
    (inside (at + (length (code_of bs) + 9)) (scope_of bs) parts.1)
body_utf8 B D inside at forms.Int32 bs e = signed_utf8 (int32_of bs)
body_utf8 B D inside at forms.Timestamp bs e =
    two _ _ _ (decimal_utf8 (seconds_of bs)) timestamp_middle (decimal_utf8 (increment_of bs))
body_utf8 B D inside at forms.Int64 bs e = signed_utf8 (int64_of bs)
body_utf8 B D inside at forms.DecimalBits bs e = hex_utf8 bs
body_utf8 B D inside at forms.MaxKey bs e = IsUtf8-nil
body_utf8 B D inside at forms.MinKey bs e = IsUtf8-nil

leaf_utf8 : (B : ℕ → Items → Bool) (D : Items → List ℕ) → ((at : ℕ) (is : Items) → B at is ≡ false → IsUtf8 (D is))
    → (at : ℕ) (form : Option Form) (bs : List ℕ) → is_bad_leaf B at form bs ≡ false → IsUtf8 (leaf_text D form bs)
leaf_utf8 B D inside at None bs e = IsUtf8-nil
leaf_utf8 B D inside at (Some form) bs e = two _ _ _ (head_utf8 form) (body_utf8 B D inside at form bs e)
    (tail_utf8 form)

none : (b : Bool) (at : ℕ) → offset_if b at ≡ None → b ≡ false
none true at e = absurd cc
none false at e = refl

no_place : (o : Option ℕ) → is_some o ≡ false → o ≡ None
no_place (Some at) e = absurd (false≢true (sym e))
no_place None e = refl

-- ---- documents

-- without a bad place the text of a document or an array is UTF-8
abbrev Good : (ℕ → Items → Option ℕ) → (Bool → Items → List ℕ) → Type 0
Good F D = (named : Bool) (at : ℕ) (is : Items) → F at is ≡ None → IsUtf8 (D named is)

value_utf8 : (F : ℕ → Items → Option ℕ) (D : Bool → Items → List ℕ) → Good F D → (at : ℕ) (t : Tree)
    → value_bad F at t ≡ None → IsUtf8 (value_text D t)
value_utf8 F D inside at (leaf tag bs) e =
    leaf_utf8 (λ start is. is_some (F start is)) (D true)
    (λ start is h. inside true start is (no_place (F start is) h)) at (form_of tag) bs
    (none (is_bad_leaf (λ start is. is_some (F start is)) at (form_of tag) bs) at e)
value_utf8 F D inside at (node tag is) e = inside (tag == 3) at is e

name_utf8 : (named : Bool) (name : List ℕ) → IsUtf8 name → IsUtf8 (name_text named name)
name_utf8 true name u = IsUtf8-append (quoted name) (58 ∷ []) (quoted_utf8 name u) (ascii_utf8 (58 ∷ []) refl)
name_utf8 false name u = IsUtf8-nil

both_none : (first later : Option ℕ) → or_later first later ≡ None → (first ≡ None) × (later ≡ None)
both_none (Some at) later e = absurd cc
both_none None later e = (refl, e)

element_none : (b : Bool) (at : ℕ) (o : Option ℕ) → cond b o (Some at) ≡ None → (b ≡ true) × (o ≡ None)
element_none true at o e = (refl, e)
element_none false at o e = absurd cc

elements_utf8 : (F : ℕ → Items → Option ℕ) (D : Bool → Items → List ℕ) → Good F D → (named : Bool) (before : List ℕ)
    → IsUtf8 before → (at : ℕ) (is : Items) → elements_bad F at is ≡ None
    → IsUtf8 (elements_text (value_text D) named before is)
unfolding elements_bad elements_text
elements_utf8 F D inside named before u at no_items e = IsUtf8-nil
elements_utf8 F D inside named before u at (item name t is) e =
    let here = at + (2 + length name) in
    let parts = both_none (element_bad F here name t) (elements_bad F (here + length (value_bytes t)) is) e in
    let named_well = element_none (is_utf8 name) here (value_bad F here t) parts.0 in
    IsUtf8-append (before ++ (name_text named name ++ value_text D t)) (elements_text (value_text D) named (44 ∷ []) is)
    (two before (name_text named name) (value_text D t) u (name_utf8 named name (IsUtf8-from_is_utf8 name named_well.0))
    (value_utf8 F D inside here t named_well.1))
    (elements_utf8 F D inside named (44 ∷ []) (ascii_utf8 (44 ∷ []) refl) (here + length (value_bytes t)) is parts.1)

opening_utf8 : (named : Bool) → IsUtf8 (opening_text named)
opening_utf8 true = ascii_utf8 (123 ∷ []) refl
opening_utf8 false = ascii_utf8 (91 ∷ []) refl

closing_utf8 : (named : Bool) → IsUtf8 (closing_text named)
closing_utf8 true = ascii_utf8 (125 ∷ []) refl
closing_utf8 false = ascii_utf8 (93 ∷ []) refl

pub inside_utf8 : (levels : ℕ) → Good (inside_bad levels) (inside_text levels)
unfolding inside_bad inside_text
inside_utf8 zero named at is e = IsUtf8-nil
inside_utf8 (suc levels) named at is e =
    two (opening_text named) _ (closing_text named) (opening_utf8 named)
    (elements_utf8 (inside_bad levels) (inside_text levels) (inside_utf8 levels) named [] IsUtf8-nil (at + 4) is e)
    (closing_utf8 named)
