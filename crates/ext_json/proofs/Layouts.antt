-- What the type of a raw value says of its bytes.
use Rattle.std.proofs.Common.{◌≡◌, ℕ, ◌-◌, ◌==◌, inl, inr, Bool, true, false, cond, List, [], ◌∷◌, Option, Some, refl}
use Rattle.std.proofs.Common.{ap, subst, ◌∙◌, ◌≤◌, length, arith, length-append}
use Rattle.std.proofs.lemmas.Bool.Decides.{eqb_tells}
use Rattle.bson_tree.specs.Tree.{Tree, leaf, node, tag_of}
use Rattle.bson_tree.specs.Spelling.{value_bytes}
use Rattle.bson_codec.specs.declared.table.ValueLayout.{ValueLayout}
use Rattle.bson_codec.specs.declared.table.ValueLayout.TheVariants as values
use Rattle.bson_codec.specs.Table.{layout_of}
use Rattle.bson_codec.specs.Layout.{HasLayout, IsString, IsPointer, string_bytes, IsItems, IsRaw, IsValue, level_limit}
use Rattle.ext_json.specs.declared.form.Form.{Form}
use Rattle.ext_json.specs.declared.form.Form.TheVariants as forms
use Rattle.ext_json.specs.Forms.{form_in, form_of, form_rows, form_layout}

-- each row of a table has its layout
abbrev AllLaid : List (ℕ × Form) → Type 0
AllLaid [] = Unit {0}
AllLaid (row ∷ rows) = (layout_of row.0 ≡ Some (values.Raw (form_layout row.1))) × AllLaid rows

-- a property of each row is a property of what is found
found_by : (b : Bool) (tag : ℕ) (row : ℕ × Form) (rest : Option Form) (form : Form)
    → (b ≡ true → tag ≡ row.0) → cond b (Some row.1) rest ≡ Some form
    → layout_of row.0 ≡ Some (values.Raw (form_layout row.1))
    → (rest ≡ Some form → layout_of tag ≡ Some (values.Raw (form_layout form)))
    → layout_of tag ≡ Some (values.Raw (form_layout form))
found_by true tag row rest form same e laid next =
    let is : row.1 ≡ form = cc in
    ap layout_of (same refl) ∙ (laid ∙ ap (λ (f : Form). Some (values.Raw (form_layout f))) is)
found_by false tag row rest form same e laid next = next e

found_in : (tag : ℕ) (rows : List (ℕ × Form)) (form : Form) → AllLaid rows → form_in tag rows ≡ Some form
    → layout_of tag ≡ Some (values.Raw (form_layout form))
found_in tag [] form all e = absurd cc
found_in tag (row ∷ rows) form all e =
    found_by (tag == row.0) tag row (form_in tag rows) form
    (λ h. elim (eqb_tells tag row.0) [ inl t ↦ t.1 | inr f ↦ absurd cc ]) e all.0 (found_in tag rows form all.1)

all_laid : AllLaid form_rows
unfolding layout_of
all_laid = (
  refl,
  (
    refl,
    (
      refl,
      (
        refl,
        (
          refl,
          (
            refl,
            (
              refl,
              (
                refl,
                (
                  refl,
                  (
                    refl,
                    (
                      refl,
                      (
                        refl,
                        (refl, (refl, (refl, (refl, (refl, (refl, (refl, tt))))))),
                      ),
                    ),
                  ),
                ),
              ),
            ),
          ),
        ),
      ),
    ),
  ),
)

pub form_laid : (tag : ℕ) (form : Form) → form_of tag ≡ Some form → layout_of tag ≡ Some (values.Raw (form_layout form))
unfolding form_of
form_laid tag form e = found_in tag form_rows form all_laid e

leaf_laid : (t : Tree) (form : Form) → HasLayout (IsItems (level_limit - 1)) (Some (values.Raw (form_layout form))) t
    → IsRaw (IsItems (level_limit - 1)) (form_layout form) (value_bytes t)
leaf_laid (leaf tag bytes) form laid = laid
leaf_laid (node tag is) form laid = absurd laid

-- the bytes of a value have its form's layout
pub value_laid : (t : Tree) (form : Form) → IsValue (IsItems (level_limit - 1)) t → form_of (tag_of t) ≡ Some form
    → IsRaw (IsItems (level_limit - 1)) (form_layout form) (value_bytes t)
value_laid t form laid is =
    leaf_laid t form (subst (λ (o : Option ValueLayout). HasLayout (IsItems (level_limit - 1)) o t)
    (form_laid (tag_of t) form is) laid)

-- the form of code with a scope is that of type 0F alone
scope_by : (b : Bool) (tag : ℕ) (row : ℕ × Form) (rest : Option Form) → (b ≡ true → tag ≡ row.0)
    → (row.1 ≡ forms.Scope → row.0 ≡ 0x0F)
    → (rest ≡ Some forms.Scope → tag ≡ 0x0F) → cond b (Some row.1) rest ≡ Some forms.Scope → tag ≡ 0x0F
scope_by true tag row rest same this next e = same refl ∙ this cc
scope_by false tag row rest same this next e = next e

abbrev AllScope : List (ℕ × Form) → Type 0
AllScope [] = Unit {0}
AllScope (row ∷ rows) = (row.1 ≡ forms.Scope → row.0 ≡ 0x0F) × AllScope rows

scope_in : (tag : ℕ) (rows : List (ℕ × Form)) → AllScope rows → form_in tag rows ≡ Some forms.Scope → tag ≡ 0x0F
scope_in tag [] all e = absurd cc
scope_in tag (row ∷ rows) all e =
    scope_by (tag == row.0) tag row (form_in tag rows)
    (λ h. elim (eqb_tells tag row.0) [ inl t ↦ t.1 | inr f ↦ absurd cc ]) all.0 (scope_in tag rows all.1) e

all_scope : AllScope form_rows
all_scope = (
  (λ h. absurd cc),
  (
    (λ h. absurd cc),
    (
      (λ h. absurd cc),
      (
        (λ h. absurd cc),
        (
          (λ h. absurd cc),
          (
            (λ h. absurd cc),
            (
              (λ h. absurd cc),
              (
                (λ h. absurd cc),
                (
                  (λ h. absurd cc),
                  (
                    (λ h. absurd cc),
                    (
                      (λ h. absurd cc),
                      (
                        (λ h. absurd cc),
                        (
                          (λ h. refl),
                          (
                            (λ h. absurd cc),
                            (
                              (λ h. absurd cc),
                              (
                                (λ h. absurd cc),
                                (
                                  (λ h. absurd cc),
                                  ((λ h. absurd cc), ((λ h. absurd cc), tt)),
                                ),
                              ),
                            ),
                          ),
                        ),
                      ),
                    ),
                  ),
                ),
              ),
            ),
          ),
        ),
      ),
    ),
  ),
)

pub scope_only : (tag : ℕ) → form_of tag ≡ Some forms.Scope → tag ≡ 0x0F
unfolding form_of
scope_only tag e = scope_in tag form_rows all_scope e

-- how long raw values are at least
pub string_long : (bs : List ℕ) → IsString bs → 5 ≤ length bs
string_long bs s = omega (arith, ap length s.parts, length-append s.text (0 ∷ []))

pub pointer_long : (bs : List ℕ) → IsPointer bs → 17 ≤ length bs
pointer_long bs s = omega (
  arith,
  ap length s.parts,
  length-append (string_bytes s.text) s.id,
  length-append s.text (0 ∷ []),
  s.id_size,
)
