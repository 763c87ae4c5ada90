-- A document that JSON values stand for has a spelling exactly where its names have no 00 and its levels are few.
use Rattle.std.proofs.Common.{◌≡◌, ◌⊎◌, ◌↔◌, inl, inr, ℕ, ℤ, zero, suc, ◌+◌, ◌<◌, ◌≤◌, ◌^◌, ◌==◌, ◌&&◌, max, Bool, true}
use Rattle.std.proofs.Common.{false, not, cond, List, [], ◌∷◌, ◌++◌, length, Option, Some, None, option_map}
use Rattle.std.proofs.Common.{option_and_then, refl, sym, ap, subst, ◌∙◌, arith, length-append}
use Rattle.std.proofs.lemmas.Bool.Decides.{eqb_tells}
use Rattle.std.proofs.lemmas.Bool.{false≢true}
use Rattle.std.specs.Fmt.{decimal}
use Rattle.serde_json.specs.Data.{Data, null, boolean, number, string, array, object, Items as Values}
use Rattle.serde_json.specs.Data.{no_items as no_values, item as value_then, Members, no_members, member}
use Rattle.serde_json.specs.Find.{as_i64}
use Rattle.bson_tree.specs.Tree.{Tree, Items, leaf, node, no_items, item}
use Rattle.bson_tree.specs.Spelling.{value_bytes, items_bytes, doc_bytes}
use Rattle.bson_codec.specs.declared.table.ValueLayout.{ValueLayout}
use Rattle.bson_codec.specs.declared.table.ValueLayout.TheVariants as values
use Rattle.bson_codec.specs.Table.{layout_of}
use Rattle.bson_codec.specs.Layout.{HasLayout, IsInside, IsWellFormed, level_limit, longest, IsName, IsValue}
use Rattle.bson_codec.specs.Layout.{AreElements, IsItems, string_bytes, binary_bytes}
use Rattle.ext_json.specs.Binaries.{Contents, wrapped}
use Rattle.ext_json.specs.JsonTrees.{json_tree, array_items, object_items, number_tree, is_short, binary_tree}
use Rattle.ext_json.specs.JsonTrees.{object_tree, bool_byte}
use Rattle.ext_json.specs.Infos.{document_in, document_of}
use Rattle.ext_json.specs.Bounds.{has_no_zero, is_named, is_named_tree, levels_in, levels_of}

pub both : (a b : Bool) → (a && b) ≡ true → (a ≡ true) × (b ≡ true)
both true b e = (refl, e)
both false b e = absurd (false≢true e)

some_tree : (x y : Tree) → Some x ≡ Some y → x ≡ y
some_tree x y e = cc

some_items : (x y : Items) → Some x ≡ Some y → x ≡ y
some_items x y e = cc

nonzero : (b : ℕ) → not (b == 0) ≡ true → 0 < b
nonzero zero e = absurd (elim (eqb_tells zero 0) [ inl t ↦ false≢true (sym (ap not t.0) ∙ e) | inr f ↦ f.1 refl ])
nonzero (suc b) e = omega arith

some_byte : (b : ℕ) → 0 < b → not (b == 0) ≡ true
some_byte b more = elim (eqb_tells b 0) [ inl t ↦ absurd (omega (arith, more, t.1)) | inr f ↦ ap not f.0 ]

pub and_true : (a b : Bool) → a ≡ true → b ≡ true → (a && b) ≡ true
and_true true b e f = f
and_true false b e f = e

name_fine : (name : List ℕ) → has_no_zero name ≡ true → IsName name
name_fine [] e = tt
name_fine (b ∷ name) e =
    let parts = both (not (b == 0)) (has_no_zero name) e in
    (nonzero b parts.0, name_fine name parts.1)

null_laid : (D : Items → Type 0) → IsValue D (leaf 0x0A [])
unfolding layout_of
null_laid D = refl

undefined_laid : (D : Items → Type 0) → IsValue D (leaf 0x06 [])
unfolding layout_of
undefined_laid D = refl

bool_laid : (D : Items → Type 0) (b : Bool) → IsValue D (leaf 0x08 (bool_byte b ∷ []))
unfolding layout_of
bool_laid D true = inr refl
bool_laid D false = inl refl

string_laid : (D : Items → Type 0) (s : List ℕ) → length (string_bytes s) < 2 ^ 31
    → IsValue D (leaf 0x02 (string_bytes s))
unfolding layout_of
string_laid D s small = record { text = s; fits = omega (arith, small, length-append s (0 ∷ [])); parts = refl }

binary_laid : (D : Items → Type 0) (c : Contents) → length (binary_bytes c.0 c.1) < 2 ^ 31 → IsValue D (binary_tree c)
unfolding layout_of
binary_laid D c small = record { subtype = c.0; contents = c.1; fits = omega (arith, small); parts = refl }

integer_by : (D : Items → Type 0) (b : Bool) (short long : List ℕ) → length short ≡ 4 → length long ≡ 8
    → IsValue D (cond b (leaf 0x10 short) (leaf 0x12 long))
unfolding layout_of
integer_by D true short long s l = s
integer_by D false short long s l = l

number_laid : (D : Items → Type 0) (o : Option ℤ) → IsValue D (number_tree o)
number_laid D None = undefined_laid D
number_laid D (Some z) = integer_by D (is_short z) _ _ refl refl

doc_laid : (tag : ℕ) (n : ℕ) (is : Items) → (tag ≡ 3) ⊎ (tag ≡ 4) → IsItems n is → length (doc_bytes is) < 2 ^ 31
    → IsValue (IsItems n) (node tag is)
unfolding layout_of
doc_laid tag n is (inl three) inside small = rw three (record { inside = inside; fits = small })
doc_laid tag n is (inr four) inside small = rw four (record { inside = inside; fits = small })

doc_size : (is : Items) → length (doc_bytes is) ≡ length (items_bytes is) + 5
doc_size is = omega (arith, length-append (items_bytes is) (0 ∷ []))

item_size : (name : List ℕ) (t : Tree) (is : Items)
    → length (items_bytes (item name t is)) ≡ length name + 2 + length (value_bytes t) + length (items_bytes is)
item_size name t is = omega (
  arith,
  length-append name (0 ∷ (value_bytes t ++ items_bytes is)),
  length-append (value_bytes t) (items_bytes is),
)

-- ---- what a choice that gives something came from
mapped : (tag : ℕ) (o : Option Items) (t : Tree) → option_map (node tag) o ≡ Some t
    → (is : Items) × (o ≡ Some is) × (node tag is ≡ t)
mapped tag None t e = absurd cc
mapped tag (Some is) t e = (is, refl, some_tree (node tag is) t e)

mapped_binary : (o : Option Contents) (t : Tree) → option_map binary_tree o ≡ Some t
    → (c : Contents) × (binary_tree c ≡ t)
mapped_binary None t e = absurd cc
mapped_binary (Some c) t e = (c, some_tree (binary_tree c) t e)

chained : (name : List ℕ) (o : Option Tree) (rest : Option Items) (is : Items)
    → option_and_then (λ t. option_map (item name t) rest) o ≡ Some is
    → (t : Tree) × (js : Items) × (o ≡ Some t) × (rest ≡ Some js) × (item name t js ≡ is)
chained name None rest is e = absurd cc
chained name (Some t) None is e = absurd cc
chained name (Some t) (Some js) is e = (t, js, refl, refl, some_items (item name t js) is e)

-- ---- fine trees have a spelling
inside_fine : (n : ℕ) (is : Items) → levels_in is ≤ n → ((m : ℕ) → levels_in is ≤ suc m → AreElements (IsItems m) is)
    → IsItems n is
inside_fine zero no_items few make = absurd (omega (arith, few))
inside_fine zero (item name t is) few make = absurd (omega (arith, few))
inside_fine (suc m) is few make = make m few

node_fine : (tag n : ℕ) (is : Items) (t : Tree) → node tag is ≡ t → (tag ≡ 3) ⊎ (tag ≡ 4) → is_named_tree t ≡ true
    → levels_of t ≤ n → length (value_bytes t) < 2 ^ 31
    → ((k : ℕ) → is_named is ≡ true → levels_in is ≤ suc k → length (items_bytes is) < 2 ^ 31
    → AreElements (IsItems k) is) → IsValue (IsItems n) (node tag is)
node_fine tag n is t this kind named few small make =
    let named' : is_named is ≡ true = ap is_named_tree this ∙ named in
    let few' : levels_in is ≤ n = omega (arith, few, ap levels_of this) in
    let small' : length (doc_bytes is) < 2 ^ 31 =
    omega (arith, small, ap (λ (x : Tree). length (value_bytes x)) this) in
    doc_laid tag n is kind (inside_fine n is few' (λ k below. make k named' below (omega (arith, small', doc_size is))))
    small'

object_fine : (ms : Members) (s : Option (Option Contents)) (n : ℕ) (t : Tree)
    → object_tree s (object_items ms) ≡ Some t → is_named_tree t ≡ true → levels_of t ≤ n
    → length (value_bytes t) < 2 ^ 31
    → ((is : Items) → object_items ms ≡ Some is → (k : ℕ) → is_named is ≡ true → levels_in is ≤ suc k
    → length (items_bytes is) < 2 ^ 31 → AreElements (IsItems k) is) → IsValue (IsItems n) t
object_fine ms (Some o) n t e named few small make =
    let m = mapped_binary o t e in
    subst (IsValue (IsItems n)) m.1 (binary_laid (IsItems n) m.0
    (omega (arith, small, ap (λ (x : Tree). length (value_bytes x)) m.1)))
object_fine ms None n t e named few small make =
    let m = mapped 0x03 (object_items ms) t e in
    subst (IsValue (IsItems n)) m.2 (node_fine 0x03 n m.0 t m.2 (inl refl) named few small (make m.0 m.1))

mutual
  pub value_fine : (d : Data) (n : ℕ) (t : Tree) → json_tree d ≡ Some t → is_named_tree t ≡ true → levels_of t ≤ n
      → length (value_bytes t) < 2 ^ 31 → IsValue (IsItems n) t
  value_fine null n t e named few small = subst (IsValue (IsItems n)) (some_tree _ t e) (null_laid (IsItems n))
  value_fine (boolean b) n t e named few small = subst (IsValue (IsItems n)) (some_tree _ t e) (bool_laid (IsItems n) b)
  value_fine (number x) n t e named few small =
      subst (IsValue (IsItems n)) (some_tree _ t e) (number_laid (IsItems n) (as_i64 x))
  value_fine (string s) n t e named few small =
      subst (IsValue (IsItems n)) (some_tree _ t e)
      (string_laid (IsItems n) s (omega (
        arith,
        small,
        ap (λ (x : Tree). length (value_bytes x)) (some_tree (leaf 0x02 (string_bytes s)) t e),
      )))
  value_fine (array ds) n t e named few small =
      let m = mapped 0x04 (array_items 0 ds) t e in
      subst (IsValue (IsItems n)) m.2 (node_fine 0x04 n m.0 t m.2 (inr refl) named few small
      (λ k named' few' small'. array_fine ds 0 k m.0 m.1 named' few' small'))
  value_fine (object ms) n t e named few small =
      object_fine ms (wrapped ms) n t e named few small
      (λ is found k named' few' small'. members_fine ms k is found named' few' small')

  array_fine : (ds : Values) (i n : ℕ) (is : Items) → array_items i ds ≡ Some is → is_named is ≡ true
      → levels_in is ≤ suc n → length (items_bytes is) < 2 ^ 31 → AreElements (IsItems n) is
  array_fine no_values i n is e named few small = subst (AreElements (IsItems n)) (some_items no_items is e) tt
  array_fine (value_then d ds) i n is e named few small =
      let c = chained (decimal i) (json_tree d) (array_items (i + 1) ds) is e in
      let named' = both (has_no_zero (decimal i)) (is_named_tree c.0 && is_named c.1) (ap is_named c.4 ∙ named) in
      let parts = both (is_named_tree c.0) (is_named c.1) named'.1 in
      let size = item_size (decimal i) c.0 c.1 in
      let whole : length (items_bytes (item (decimal i) c.0 c.1)) ≡ length (items_bytes is) =
      ap (λ (x : Items). length (items_bytes x)) c.4 in
      let few' : max (levels_of c.0 + 1) (levels_in c.1) ≤ suc n = omega (arith, few, ap levels_in c.4) in
      subst (AreElements (IsItems n)) c.4 (
        name_fine (decimal i) named'.0,
        value_fine d n c.0 c.2 parts.0 (omega (arith, few'))
            (omega (arith, size, whole, small)),
        array_fine ds (i + 1) n c.1 c.3 parts.1 (omega (arith, few'))
            (omega (arith, size, whole, small)),
      )

  members_fine : (ms : Members) (n : ℕ) (is : Items) → object_items ms ≡ Some is → is_named is ≡ true
      → levels_in is ≤ suc n → length (items_bytes is) < 2 ^ 31 → AreElements (IsItems n) is
  members_fine no_members n is e named few small = subst (AreElements (IsItems n)) (some_items no_items is e) tt
  members_fine (member k d ms) n is e named few small =
      let c = chained k (json_tree d) (object_items ms) is e in
      let named' = both (has_no_zero k) (is_named_tree c.0 && is_named c.1) (ap is_named c.4 ∙ named) in
      let parts = both (is_named_tree c.0) (is_named c.1) named'.1 in
      let size = item_size k c.0 c.1 in
      let whole : length (items_bytes (item k c.0 c.1)) ≡ length (items_bytes is) =
      ap (λ (x : Items). length (items_bytes x)) c.4 in
      let few' : max (levels_of c.0 + 1) (levels_in c.1) ≤ suc n = omega (arith, few, ap levels_in c.4) in
      subst (AreElements (IsItems n)) c.4 (
        name_fine k named'.0,
        value_fine d n c.0 c.2 parts.0 (omega (arith, few')) (omega (arith, size, whole, small)),
        members_fine ms n c.1 c.3 parts.1 (omega (arith, few')) (omega (arith, size, whole, small)),
      )

-- ---- what has a spelling is fine
name_back : (name : List ℕ) → IsName name → has_no_zero name ≡ true
name_back [] h = refl
name_back (b ∷ name) h = and_true (not (b == 0)) (has_no_zero name) (some_byte b h.0) (name_back name h.1)

pub layout_inside : (D : Items → Type 0) (o : Option ValueLayout) (tag : ℕ) (is : Items) → HasLayout D o (node tag is)
    → IsInside D is
layout_inside D None tag is h = absurd h
layout_inside D (Some values.Document) tag is h = h
layout_inside D (Some (values.Raw layout)) tag is h = absurd h

items_cases : (n : ℕ) (is : Items) → IsItems n is → (m : ℕ) × (n ≡ suc m) × AreElements (IsItems m) is
items_cases zero is h = absurd h
items_cases (suc m) is h = (m, refl, h)

mutual
  tree_back : (t : Tree) (n : ℕ) → IsValue (IsItems n) t → (is_named_tree t ≡ true) × (levels_of t ≤ n)
  tree_back (leaf tag bs) n h = (refl, omega arith)
  tree_back (node tag is) n h =
      let inside = layout_inside (IsItems n) (layout_of tag) tag is h in
      let k = items_cases n is inside.inside in
      let r = items_back is k.0 k.2 in
      (r.0, omega (arith, r.1, k.1))

  items_back : (is : Items) (m : ℕ) → AreElements (IsItems m) is → (is_named is ≡ true) × (levels_in is ≤ suc m)
  items_back no_items m h = (refl, omega arith)
  items_back (item name t is) m h =
      let first = tree_back t m h.1 in
      let rest = items_back is m h.2 in (
        and_true (has_no_zero name) (is_named_tree t && is_named is) (name_back name h.0)
            (and_true (is_named_tree t) (is_named is) first.0 rest.0),
        omega (arith, first.1, rest.1),
      )

-- names without 00, at most 100 levels, at most 67,108,864 bytes
pub record IsFine (is : Items) : Type 0 where
  pub named : is_named is ≡ true
  pub levels : levels_in is ≤ level_limit
  pub short : length (doc_bytes is) ≤ longest

document_by : (b : Bool) (is js : Items) → cond b (Some is) None ≡ Some js → (b ≡ true) × (is ≡ js)
document_by true is js e = (refl, some_items is js e)
document_by false is js e = absurd cc

document_tree : (t : Tree) (is : Items) → document_in t ≡ Some is → t ≡ node 3 is
document_tree (leaf tag bs) is e = absurd cc
document_tree (node tag js) is e =
    let parts = document_by (tag == 3) js is e in
    let three : tag ≡ 3 = elim (eqb_tells tag 3) [ inl t ↦ t.1 | inr f ↦ absurd (false≢true (sym f.0 ∙ parts.0)) ] in
    rw (three, parts.1) refl

document_value : (o : Option Tree) (is : Items) → option_and_then document_in o ≡ Some is → o ≡ Some (node 3 is)
document_value None is e = absurd cc
document_value (Some t) is e = ap (λ (x : Tree). Some x) (document_tree t is e)

pub well_formed_is : (d : Data) (is : Items) → document_of d ≡ Some is → IsWellFormed is ↔ IsFine is
well_formed_is d is e =
    let found : json_tree d ≡ Some (node 3 is) = document_value (json_tree d) is e in (
      λ h.
          let k = items_cases level_limit is h.spelled.inside in
          let r = items_back is k.0 k.2 in
          record { named = r.0; levels = omega (arith, r.1, k.1); short = h.short },
      λ h.
          let small : length (doc_bytes is) < 2 ^ 31 = omega (arith, h.short) in
          let laid = value_fine d level_limit (node 3 is) found h.named h.levels small in
          record { spelled = layout_inside (IsItems level_limit) (layout_of 3) 3 is laid; short = h.short },
    )
