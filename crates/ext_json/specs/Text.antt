-- Documents as text: compact JSON (RFC 8259) without spaces, after MongoDB Extended JSON v2 in its canonical form.
use Rattle.std.specs.Prelude.{ℕ, zero, suc, ◌==◌, Bool, true, false, List, [], ◌∷◌, ◌++◌, Option, Some, None}
use Rattle.std.specs.Prelude.{slice_index}
use Rattle.std.specs.Fmt.{decimal, signed_decimal}
use Rattle.base64.specs.Engines.{standard}
use Rattle.base64.specs.GeneralPurpose.{encode_of}
use Rattle.hex.specs.Hex.{encode_lower}
use Rattle.bson_tree.specs.Tree.{Tree, Items, leaf, node, no_items, item}
use Rattle.bson_codec.specs.Layout.{level_limit}
use Rattle.ext_json.specs.declared.form.Form.{Form}
use Rattle.ext_json.specs.declared.form.Form.TheVariants as forms
use Rattle.ext_json.specs.Forms.{form_of}
use Rattle.ext_json.specs.Fixed.{head_text, middle_text, tail_text, truth_text}
use Rattle.ext_json.specs.Quoted.{escaped, quoted}
use Rattle.ext_json.specs.Parts.{text_of, subtype_of, contents_of, pattern_of, options_of, namespace_of, id_of}
use Rattle.ext_json.specs.Parts.{int32_of, int64_of, seconds_of, increment_of, code_of, scope_of}

-- what stands between the head and the tail of a raw value, one equation a form; D is the text of a document
abbrev pub body_text : (Items → List ℕ) → Form → List ℕ → List ℕ
body_text D forms.DoubleBits bs = encode_lower bs
body_text D forms.Text bs = escaped (text_of bs)
body_text D forms.Binary bs = encode_of standard (contents_of bs)
    ++ (middle_text forms.Binary ++ encode_lower (subtype_of bs ∷ []))
body_text D forms.Undefined bs = []
body_text D forms.ObjectId bs = encode_lower bs
body_text D forms.Bool bs = truth_text (slice_index bs 0)
body_text D forms.Date bs = signed_decimal (int64_of bs)
body_text D forms.Null bs = []
body_text D forms.Regex bs = quoted (pattern_of bs) ++ (middle_text forms.Regex ++ quoted (options_of bs))
body_text D forms.Pointer bs = quoted (namespace_of bs) ++ (middle_text forms.Pointer ++ encode_lower (id_of bs))
body_text D forms.Code bs = quoted (text_of bs)
body_text D forms.Symbol bs = quoted (text_of bs)
body_text D forms.Scope bs = quoted (code_of bs) ++ (middle_text forms.Scope ++ D (scope_of bs))
body_text D forms.Int32 bs = signed_decimal (int32_of bs)
body_text D forms.Timestamp bs = decimal (seconds_of bs) ++ (middle_text forms.Timestamp ++ decimal (increment_of bs))
body_text D forms.Int64 bs = signed_decimal (int64_of bs)
body_text D forms.DecimalBits bs = encode_lower bs
body_text D forms.MaxKey bs = []
body_text D forms.MinKey bs = []

-- a raw value of a form
abbrev pub raw_text : (Items → List ℕ) → Form → List ℕ → List ℕ
raw_text D form bs = head_text form ++ (body_text D form bs ++ tail_text form)

-- a raw value of a type; a byte that is no type has no text
abbrev pub leaf_text : (Items → List ℕ) → Option Form → List ℕ → List ℕ
leaf_text D None bs = []
leaf_text D (Some form) bs = raw_text D form bs

-- a value; D is the text of a document (true) and of an array (false)
abbrev pub value_text : (Bool → Items → List ℕ) → Tree → List ℕ
value_text D (leaf tag bs) = leaf_text (D true) (form_of tag) bs
value_text D (node tag is) = D (tag == 0x03) is

-- the name of an element and a colon; in an array nothing
abbrev pub name_text : Bool → List ℕ → List ℕ
name_text true name = quoted name ++ 58 ∷ []
name_text false name = []

-- elements, each behind a comma, but the first one behind `before`
unfoldable pub elements_text : (Tree → List ℕ) → Bool → List ℕ → Items → List ℕ
elements_text V named before no_items = []
elements_text V named before (item name t is) =
    (before ++ (name_text named name ++ V t)) ++ elements_text V named (44 ∷ []) is

-- RFC 8259, sections 4 and 5: what a document (true) and an array (false) begin with
abbrev pub opening_text : Bool → List ℕ
opening_text true = 123 ∷ []
opening_text false = 91 ∷ []

-- and what they end with
abbrev pub closing_text : Bool → List ℕ
closing_text true = 125 ∷ []
closing_text false = 93 ∷ []

-- a document or an array that takes at most so many levels of nesting
unfoldable pub inside_text : ℕ → Bool → Items → List ℕ
inside_text zero named is = []
inside_text (suc levels) named is = opening_text named
    ++ (elements_text (value_text (inside_text levels)) named [] is ++ closing_text named)

-- the text of a document; `laws::levels_suffice` says that more levels give no other text
abbrev pub text : Items → List ℕ
text is = inside_text level_limit true is
