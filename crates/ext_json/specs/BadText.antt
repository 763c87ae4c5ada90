-- The first place of a document, in reading order, whose name, text or part of a regular expression isn't UTF-8.
use Rattle.std.specs.Prelude.{ℕ, zero, suc, ◌+◌, ◌||◌, Bool, false, not, List, Option, Some, None, is_some, length}
use Rattle.std.specs.Prelude.{if◌then◌else◌}
use Rattle.std.specs.Str.{is_utf8}
use Rattle.bson_tree.specs.Tree.{Tree, Items, leaf, node, no_items, item}
use Rattle.bson_tree.specs.Spelling.{value_bytes}
use Rattle.bson_codec.specs.Layout.{level_limit}
use Rattle.ext_json.specs.declared.form.Form.{Form}
use Rattle.ext_json.specs.declared.form.Form.TheVariants as forms
use Rattle.ext_json.specs.Forms.{form_of}
use Rattle.ext_json.specs.Parts.{text_of, pattern_of, options_of, namespace_of, code_of, scope_of}

-- a text in the value, which begins at `at`, isn't UTF-8; B says whether a document has such a place
abbrev pub is_bad_raw : (ℕ → Items → Bool) → ℕ → Form → List ℕ → Bool
is_bad_raw B at forms.Text bs = not (is_utf8 (text_of bs))
is_bad_raw B at forms.Code bs = not (is_utf8 (text_of bs))
is_bad_raw B at forms.Symbol bs = not (is_utf8 (text_of bs))
is_bad_raw B at forms.Regex bs = not (is_utf8 (pattern_of bs)) || not (is_utf8 (options_of bs))
is_bad_raw B at forms.Pointer bs = not (is_utf8 (namespace_of bs))
is_bad_raw B at forms.Scope bs = not (is_utf8 (code_of bs)) || B (at + (length (code_of bs) + 9)) (scope_of bs)
is_bad_raw B at _ bs = false

-- the same for a value of a type; bytes of no type hold no text
abbrev pub is_bad_leaf : (ℕ → Items → Bool) → ℕ → Option Form → List ℕ → Bool
is_bad_leaf B at None bs = false
is_bad_leaf B at (Some form) bs = is_bad_raw B at form bs

-- the offset of a bad value
abbrev pub offset_if : Bool → ℕ → Option ℕ
offset_if bad at = if bad then Some at else None

-- in a value that begins at `at`; F finds the place in a document. What is inside a scope counts for the value itself
abbrev pub value_bad : (ℕ → Items → Option ℕ) → ℕ → Tree → Option ℕ
value_bad F at (leaf tag bs) = offset_if (is_bad_leaf (λ start is. is_some (F start is)) at (form_of tag) bs) at
value_bad F at (node tag is) = F at is

-- the name first, in arrays too
abbrev pub element_bad : (ℕ → Items → Option ℕ) → ℕ → List ℕ → Tree → Option ℕ
element_bad F at name t = if is_utf8 name then value_bad F at t else Some at

-- the first of two places
abbrev pub or_later : Option ℕ → Option ℕ → Option ℕ
or_later (Some at) later = Some at
or_later None later = later

-- in elements of which the first one begins at `at`
unfoldable pub elements_bad : (ℕ → Items → Option ℕ) → ℕ → Items → Option ℕ
elements_bad F at no_items = None
elements_bad F at (item name t is) =
    or_later (element_bad F (at + (2 + length name)) name t)
    (elements_bad F (at + (2 + length name) + length (value_bytes t)) is)

-- in a document that begins at `at` and takes at most so many levels of nesting
unfoldable pub inside_bad : ℕ → ℕ → Items → Option ℕ
inside_bad zero at is = None
inside_bad (suc levels) at is = elements_bad (inside_bad levels) (at + 4) is

-- the offset of the value of the first such place of a document that begins at `start`
abbrev pub first_bad : ℕ → Items → Option ℕ
first_bad start is = inside_bad level_limit start is
