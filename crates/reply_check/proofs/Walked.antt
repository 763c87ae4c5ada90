-- What is asked of the value in the place of an element's, by the next mark.
use Rattle.std.proofs.Common.{◌≡◌, ◌∙◌, ℕ, ◌+◌, ◌<◌, ◌≤◌, Bool, true, false}
use Rattle.std.proofs.Common.{◌&&◌, List, [], ◌∷◌, length, Option, Some, ◌-◌}
use Rattle.std.proofs.Common.{None, MatchOption, option_map, refl, sym, ap, ap₂, subst}
use Rattle.std.proofs.lemmas.Bool.{eq-eqb, ne_eqb}
use Rattle.std.specs.Prelude.{◌==◌, bytes_eq}
use Rattle.bson_codec.specs.Borrowed.{At, Elem, value_tree}
use Rattle.bson_codec.specs.Elements.{TakesElement}
use Rattle.bson_codec.specs.Layout.{IsDoc, IsItems, IsValue, level_limit}
use Rattle.bson_codec.proofs.Fronts.{value_tree_is}
use Rattle.bson_codec.proofs.Grammar.{same_tree as same_doc}
use Rattle.bson_tree.specs.Tree.{Tree, leaf, node, Items, tag_of}
use Rattle.bson_tree.specs.Spelling.{framed, value_bytes, items_bytes, doc_bytes}
use Rattle.encrypt_schema.specs.declared.command.marks.Mark.{Mark}
use Rattle.encrypt_schema.specs.Language.Names.{named}
use Rattle.bson_splice.specs.declared.step.Step.TheVariants as steps
use Rattle.bson_splice.specs.Steps.{StepsBy}
use Rattle.bson_splice.proofs.Steps.{Shut, aside_item, first_is, inside_item, own_item}
use Rattle.command_marker.specs.Splices.{begins, is_before, left_in, left}
use Rattle.reply_check.specs.Matches.{matches, matches_in, matches_inside}
use Rattle.reply_check.specs.Same.{is_same, is_same_tree}
use Rattle.reply_check.specs.Steps.{Walks}
use Rattle.reply_check.proofs.Trees.{all, both, items_are, one_test, same_items, same_tree, tree_is}
use Rattle.std.proofs.lemmas.Slice.Eq.{bytes_eq-Decides}
use Rattle.std.proofs.lemmas.Bool.Decides.{Decides-eqb}

-- a value is kept
abbrev pub Keeps : (Mark → Tree → Tree → Bool) → ℕ → Tree → List Mark → Type 0
Keeps test at t ms = ((u : Tree) → matches_in test at ms t u ≡ is_same_tree u t) × (left_in at ms t ≡ ms)

-- what is asked by the tests of the next mark
module _ (test : Mark → Tree → Tree → Bool) (at : ℕ) (ms : List Mark) where
  keeps : (t : Tree) → begins at ms ≡ false → Shut (λ (m : Mark). m.start) at t ms → Keeps test at t ms
  keeps (leaf tag bytes) off shut = rw off (λ u. refl, refl)
  keeps (node tag is) off shut = rw (off, shut) (λ u. refl, refl)

  tests : (t : Tree) (m : Mark) (rest : List Mark) → ms ≡ m ∷ rest → begins at ms ≡ true
      → ((u : Tree) → matches_in test at ms t u ≡ test m t u) × (left_in at ms t ≡ rest)
  tests (leaf tag bytes) m rest e on =
      let own : begins at (m ∷ rest) ≡ true = subst (λ (ns : List Mark). begins at ns ≡ true) e on in
      rw (e, own) (λ u. refl, refl)
  tests (node tag is) m rest e on =
      let own : begins at (m ∷ rest) ≡ true = subst (λ (ns : List Mark). begins at ns ≡ true) e on in
      rw (e, own) (λ u. refl, refl)

  opens : (t : Tree) (tag : ℕ) (kids : Items) → t ≡ node tag kids → begins at ms ≡ false
      → is_before (at + length (framed (items_bytes kids))) ms ≡ true
      → ((u : Tree) → matches_in test at ms t u ≡ matches_inside test (at + 4) ms tag kids u)
      × (left_in at ms t ≡ left (at + 4) ms kids)
  opens t tag kids is off on = rw (is, off, on) (λ u. refl, refl)

-- what is asked in the place of an element, whose next mark is known
module _ (test : Mark → Tree → Tree → Bool) (o : Option Mark) (e : Elem) (ms rest : List Mark)
    (first : MatchOption o (ms ≡ []) (λ m. ms ≡ m ∷ rest)) where
  -- it is the same
  pub item_keeps : StepsBy (option_map (λ (m : Mark). m.start) o) e steps.Keep → Keeps test e.start e.tree ms
  item_keeps told =
      let a = aside_item (λ (m : Mark). m.start) o e ms rest first told in keeps test e.start ms e.tree a.0 a.1

  -- it passes the test of the mark
  pub item_tests : (m : Mark) → o ≡ Some m → StepsBy (option_map (λ (m : Mark). m.start) o) e steps.Put
      → ((u : Tree) → matches_in test e.start ms e.tree u ≡ test m e.tree u) × (left_in e.start ms e.tree ≡ rest)
  item_tests m is told =
      tests test e.start ms e.tree m rest (first_is (λ (m : Mark). m.start) o e ms rest first m is)
      (own_item (λ (m : Mark). m.start) o e ms rest first told)

  -- it matches in the marks inside
  pub item_opens : (document : At) → StepsBy (option_map (λ (m : Mark). m.start) o) e (steps.Open document)
      → ((u : Tree) → matches_in test e.start ms e.tree u
      ≡ matches_inside test (document.start + 4) ms (tag_of e.tree) document.tree u)
      × (left_in e.start ms e.tree ≡ left (document.start + 4) ms document.tree)
  item_opens document told =
      let i = inside_item (λ (m : Mark). m.start) o e ms rest first document told in
      let opened = opens test e.start ms e.tree (tag_of e.tree) document.tree told.0 i.0 i.1 in (
        λ u. opened.0 u
            ∙ ap (λ (n : ℕ). matches_inside test (n + 4) ms (tag_of e.tree) document.tree u) told.1,
        opened.1 ∙ ap (λ (n : ℕ). left (n + 4) ms document.tree) told.1,
      )

-- what stands in the place of a document or an array in which the next mark stands: one of its type, one of another
-- type, and a raw value
module _ (test : Mark → Tree → Tree → Bool) (at : ℕ) (ms : List Mark) (tag : ℕ) (is : Items) where
  pub inside_node : (kind : ℕ) (js : Items) (u : Tree) → u ≡ node kind js → kind ≡ tag
      → matches_inside test at ms tag is u ≡ matches test at ms is js
  inside_node kind js u e s = let on : (kind == tag) ≡ true = eq-eqb kind tag s in rw (e, on) refl

  pub inside_other : (kind : ℕ) (js : Items) (u : Tree) → u ≡ node kind js → (kind ≡ tag → ⊥)
      → matches_inside test at ms tag is u ≡ false
  inside_other kind js u e s = let off : (kind == tag) ≡ false = ne_eqb kind tag s in rw (e, off) refl

  pub inside_raw : (kind : ℕ) (bytes : List ℕ) (u : Tree) → u ≡ leaf kind bytes
      → matches_inside test at ms tag is u ≡ false
  inside_raw kind bytes u e = rw e refl

-- a walk's answer, for a test and for marks that are the same
pub walks_by : (ms : List Mark) (a b : Bool) (xs ys : List Mark) (r : Option ℕ) → a ≡ b → xs ≡ ys → Walks ms b ys r
    → Walks ms a xs r
walks_by ms a b xs ys None p q w = p ∙ w
walks_by ms a b xs ys (Some n) p q w = (p ∙ w.0, w.1 ∙ sym q)

-- ---- what is left

module _ (test : Mark → Tree → Tree → Bool) where
  -- two elements, and the others
  pub next_two : (here rest there behind : At) (e f : Elem) (ms : List Mark) → TakesElement here (Some e) rest
      → TakesElement there (Some f) behind
      → matches test here.start ms here.tree there.tree
      ≡ (bytes_eq f.name e.name && (matches_in test e.start ms e.tree f.tree
      && matches test rest.start (left_in e.start ms e.tree) rest.tree behind.tree))
  next_two here rest there behind e f ms taken other =
      let p : here.start + (2 + length e.name) ≡ e.start = sym taken.1 in
      let q : e.start + length (value_bytes e.tree) ≡ rest.start = sym taken.2 in
      ap₂ (λ (is js : Items). matches test here.start ms is js) taken.0 other.0
      ∙ ap (λ (n : ℕ). bytes_eq f.name e.name && (matches_in test n ms e.tree f.tree
      && matches test (n + length (value_bytes e.tree)) (left_in n ms e.tree) rest.tree behind.tree)) p
      ∙ ap (λ (n : ℕ). bytes_eq f.name e.name && (matches_in test e.start ms e.tree f.tree
      && matches test n (left_in e.start ms e.tree) rest.tree behind.tree)) q

  pub next_left : (here rest : At) (e : Elem) (ms : List Mark) → TakesElement here (Some e) rest
      → left here.start ms here.tree ≡ left rest.start (left_in e.start ms e.tree) rest.tree
  next_left here rest e ms taken =
      let p : here.start + (2 + length e.name) ≡ e.start = sym taken.1 in
      let q : e.start + length (value_bytes e.tree) ≡ rest.start = sym taken.2 in
      ap (left here.start ms) taken.0
      ∙ ap (λ (n : ℕ). left (n + length (value_bytes e.tree)) (left_in n ms e.tree) rest.tree) p
      ∙ ap (λ (n : ℕ). left n (left_in e.start ms e.tree) rest.tree) q

  -- an element and none in its place
  pub next_alone : (here rest there behind : At) (e : Elem) (ms : List Mark) → TakesElement here (Some e) rest
      → TakesElement there None behind → matches test here.start ms here.tree there.tree ≡ false
  next_alone here rest there behind e ms taken other =
      ap₂ (λ (is js : Items). matches test here.start ms is js) taken.0 other.0

  -- no element, and one in its place
  pub over_one : (here rest there behind : At) (f : Elem) (ms : List Mark) → TakesElement here None rest
      → TakesElement there (Some f) behind → matches test here.start ms here.tree there.tree ≡ false
  over_one here rest there behind f ms taken other =
      ap₂ (λ (is js : Items). matches test here.start ms is js) taken.0 other.0

  -- and none there either
  pub over_none : (here rest there behind : At) (ms : List Mark) → TakesElement here None rest
      → TakesElement there None behind
      → (matches test here.start ms here.tree there.tree ≡ true) × (left here.start ms here.tree ≡ ms)
  over_none here rest there behind ms taken other = (
    ap₂ (λ (is js : Items). matches test here.start ms is js) taken.0 other.0,
    ap (left here.start ms) taken.0,
  )

-- ---- values and documents by their bytes

value_is : (t u : Tree) → IsValue (IsItems (level_limit - 1)) t → IsValue (IsItems (level_limit - 1)) u
    → tag_of t ≡ tag_of u → value_bytes t ≡ value_bytes u → t ≡ u
value_is t u a b p q =
    sym (value_tree_is t a) ∙ ap₂ value_tree p q ∙ value_tree_is u b

-- values of one type with the same bytes are one
pub same_value : (t u : Tree) → IsValue (IsItems (level_limit - 1)) t → IsValue (IsItems (level_limit - 1)) u
    → ((tag_of t == tag_of u) && bytes_eq (value_bytes t) (value_bytes u)) ≡ is_same_tree t u
same_value t u a b =
    one_test ((tag_of t == tag_of u) && bytes_eq (value_bytes t) (value_bytes u)) (is_same_tree t u)
    (λ h.
    let k = both (tag_of t == tag_of u) (bytes_eq (value_bytes t) (value_bytes u)) h in
    tree_is t u (value_is t u a b ((Decides-eqb (tag_of t) (tag_of u)).0 k.0)
    ((bytes_eq-Decides (value_bytes t) (value_bytes u)).0 k.1)))
    (λ h.
    let e = same_tree t u h in
    all (tag_of t == tag_of u) (bytes_eq (value_bytes t) (value_bytes u))
    ((Decides-eqb (tag_of t) (tag_of u)).1 (ap tag_of e))
    ((bytes_eq-Decides (value_bytes t) (value_bytes u)).1 (ap value_bytes e)))

-- values of two types aren't one
pub apart : (t u : Tree) → (tag_of t == tag_of u) ≡ false → false ≡ is_same_tree t u
apart (leaf tag bytes) (leaf kind other) off = rw off refl
apart (leaf tag bytes) (node kind js) off = refl
apart (node tag is) (leaf kind other) off = refl
apart (node tag is) (node kind js) off = rw off refl

-- documents with the same bytes are one
pub same_document : (is js : Items) → IsDoc is → IsDoc js → bytes_eq (doc_bytes is) (doc_bytes js) ≡ is_same is js
same_document is js a b =
    one_test (bytes_eq (doc_bytes is) (doc_bytes js)) (is_same is js)
    (λ h. items_are is js (same_doc is js a b ((bytes_eq-Decides (doc_bytes is) (doc_bytes js)).0 h)))
    (λ h. (bytes_eq-Decides (doc_bytes is) (doc_bytes js)).1 (ap doc_bytes (same_items is js h)))

-- ---- names

pub named_is : (name word : List ℕ) → named name word ≡ bytes_eq name word
unfolding named
named_is name word = refl
