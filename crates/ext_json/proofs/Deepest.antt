-- More levels of nesting than a document has give no other text.
use Rattle.std.proofs.Common.{◌≡◌, ℕ, zero, suc, ◌+◌, ◌-◌, ◌≤◌, ◌==◌, Bool, true, List, [], ◌∷◌, ◌++◌, length, Option}
use Rattle.std.proofs.Common.{Some, None, refl, sym, ap, ap₂, subst, ◌∙◌, arith, length-append}
use Rattle.bson_tree.specs.Tree.{Tree, Items, leaf, node, no_items, item}
use Rattle.bson_tree.specs.Spelling.{doc_bytes}
use Rattle.bson_codec.specs.declared.table.ValueLayout.{ValueLayout}
use Rattle.bson_codec.specs.Table.{layout_of}
use Rattle.bson_codec.specs.Layout.{HasLayout, IsDoc, IsScope, IsValue, AreElements, IsItems, string_bytes, level_limit}
use Rattle.bson_codec.proofs.Deeper.{items_more}
use Rattle.ext_json.specs.declared.form.Form.{Form}
use Rattle.ext_json.specs.declared.form.Form.TheVariants as forms
use Rattle.ext_json.specs.Forms.{form_of}
use Rattle.ext_json.specs.Fixed.{head_text, middle_text, tail_text}
use Rattle.ext_json.specs.Parts.{code_of, scope_of}
use Rattle.ext_json.specs.Quoted.{quoted}
use Rattle.ext_json.specs.Text.{raw_text, leaf_text, value_text, name_text, elements_text, opening_text, closing_text}
use Rattle.ext_json.specs.Text.{inside_text, text}
use Rattle.ext_json.proofs.Layouts.{form_laid}
use Rattle.ext_json.proofs.Scopes.{scope_parts}
use Rattle.ext_json.proofs.Spelled.{layout_inside}

-- ---- fewer levels are levels

widen : (k n : ℕ) (is : Items) → IsItems n is → IsItems (n + k) is
widen zero n is h = subst (λ (m : ℕ). IsItems m is) (same n) h
  where
    same : (m : ℕ) → m ≡ m + 0
    same m = omega arith
widen (suc k) n is h = subst (λ (m : ℕ). IsItems m is) (same n k) (items_more (n + k) is (widen k n is h))
  where
    same : (m j : ℕ) → suc (m + j) ≡ m + suc j
    same m j = omega arith

lift : (n : ℕ) (is : Items) → n ≤ level_limit → IsItems n is → IsItems level_limit is
lift n is few h =
    let same : n + (level_limit - n) ≡ level_limit = omega (arith, few) in
    subst (λ (m : ℕ). IsItems m is) same (widen (level_limit - n) n is h)

scope_doc : (n : ℕ) (bs : List ℕ) → n ≤ level_limit → (s : IsScope (IsItems n) bs) → IsDoc s.scope
scope_doc n bs few s = record {
  inside = lift n s.scope few s.inside;
  fits = omega (arith, s.fits, length-append (string_bytes s.code) (doc_bytes s.scope));
}

scope_is : (n : ℕ) (bs : List ℕ) → n ≤ level_limit → (s : IsScope (IsItems n) bs) → scope_of bs ≡ s.scope
scope_is n bs few s = (scope_parts bs s.code s.scope s.parts (omega (arith, s.fits, ap length s.parts))
    (scope_doc n bs few s)).1

-- ---- texts that are the same on documents of n levels

module _ (n : ℕ) (few : n ≤ level_limit) (D E : Bool → Items → List ℕ) (same : (named : Bool) (is : Items)
    → IsItems n is → D named is ≡ E named is) where
  scope_same : (bs : List ℕ) → IsScope (IsItems n) bs
      → raw_text (D true) forms.Scope bs ≡ raw_text (E true) forms.Scope bs
  scope_same bs s =
      let at : scope_of bs ≡ s.scope = scope_is n bs few s in
      let inside : D true (scope_of bs) ≡ E true (scope_of bs) =
      ap (D true) at ∙ (same true s.scope s.inside ∙ sym (ap (E true) at)) in
      ap (λ (x : List ℕ). head_text forms.Scope ++ ((quoted (code_of bs) ++ (middle_text forms.Scope ++ x))
      ++ tail_text forms.Scope)) inside

  leaf_same : (tag : ℕ) (form : Option Form) (bs : List ℕ) → form_of tag ≡ form → IsValue (IsItems n) (leaf tag bs)
      → leaf_text (D true) form bs ≡ leaf_text (E true) form bs
  leaf_same tag None bs e h = refl
  leaf_same tag (Some forms.DoubleBits) bs e h = refl
  leaf_same tag (Some forms.Text) bs e h = refl
  leaf_same tag (Some forms.Binary) bs e h = refl
  leaf_same tag (Some forms.Undefined) bs e h = refl
  leaf_same tag (Some forms.ObjectId) bs e h = refl
  leaf_same tag (Some forms.Bool) bs e h = refl
  leaf_same tag (Some forms.Date) bs e h = refl
  leaf_same tag (Some forms.Null) bs e h = refl
  leaf_same tag (Some forms.Regex) bs e h = refl
  leaf_same tag (Some forms.Pointer) bs e h = refl
  leaf_same tag (Some forms.Code) bs e h = refl
  leaf_same tag (Some forms.Symbol) bs e h = refl
  leaf_same tag (Some forms.Scope) bs e h =
      scope_same bs (subst (λ (o : Option ValueLayout). HasLayout (IsItems n) o (leaf tag bs))
      (form_laid tag forms.Scope e) h)
  leaf_same tag (Some forms.Int32) bs e h = refl
  leaf_same tag (Some forms.Timestamp) bs e h = refl
  leaf_same tag (Some forms.Int64) bs e h = refl
  leaf_same tag (Some forms.DecimalBits) bs e h = refl
  leaf_same tag (Some forms.MaxKey) bs e h = refl
  leaf_same tag (Some forms.MinKey) bs e h = refl

  value_same : (t : Tree) → IsValue (IsItems n) t → value_text D t ≡ value_text E t
  value_same (leaf tag bs) h = leaf_same tag (form_of tag) bs refl h
  value_same (node tag is) h = same (tag == 3) is ((layout_inside (IsItems n) (layout_of tag) tag is h).inside)

  pub elements_same : (named : Bool) (before : List ℕ) (is : Items) → AreElements (IsItems n) is
      → elements_text (value_text D) named before is ≡ elements_text (value_text E) named before is
  unfolding elements_text
  elements_same named before no_items h = refl
  elements_same named before (item name t is) h =
      ap₂ (λ (x y : List ℕ). (before ++ (name_text named name ++ x)) ++ y) (value_same t h.1)
      (elements_same named (44 ∷ []) is h.2)

inside_same : (n more : ℕ) → n ≤ level_limit → (named : Bool) (is : Items) → IsItems n is
    → inside_text n named is ≡ inside_text (more + n) named is
unfolding inside_text
inside_same zero more few named is h = absurd h
inside_same (suc n) more few named is h =
    let shallow : n ≤ level_limit = omega (arith, few) in
    let turned : suc (more + n) ≡ more + suc n = omega arith in
    subst (λ (m : ℕ). inside_text (suc n) named is ≡ inside_text m named is) turned
    (ap (λ (x : List ℕ). opening_text named ++ (x ++ closing_text named))
    (elements_same n shallow (inside_text n) (inside_text (more + n)) (inside_same n more shallow) named [] is h))

pub levels_enough : (is : Items) (more : ℕ) → IsDoc is → inside_text (level_limit + more) true is ≡ text is
levels_enough is more doc =
    let turned : more + level_limit ≡ level_limit + more = omega arith in
    subst (λ (m : ℕ). inside_text m true is ≡ text is) turned
    (sym (inside_same level_limit more (omega arith) true is doc.inside))
