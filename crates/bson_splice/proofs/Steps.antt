-- What becomes of an element, by the next place that is taken.
use Rattle.std.proofs.Common.{◌≡◌, ◌∙◌, ℕ, ◌+◌, true, false, List, [], ◌∷◌, length, Option, Some, None}
use Rattle.std.proofs.Common.{MatchOption, option_map, unwrap_or, refl, sym, ap, subst}
use Rattle.std.proofs.lemmas.Bool.{eq-eqb, ne_eqb, lt-ltb, le-ltb}
use Rattle.std.specs.Prelude.{◌==◌}
use Rattle.bson_codec.specs.Borrowed.{At, Elem}
use Rattle.bson_tree.specs.Tree.{Tree, leaf, node, Items, tag_of}
use Rattle.bson_tree.specs.Spelling.{framed, items_bytes}
use Rattle.bson_splice.specs.declared.step.Step.{Step}
use Rattle.bson_splice.specs.declared.step.Step.TheVariants as steps
use Rattle.bson_splice.specs.Spans.{Span, AreFits, IsNextAt}
use Rattle.bson_splice.specs.Splices.{Put, start_by, begins_by, is_before_by, left_by, left_in_by, spliced_by}
use Rattle.bson_splice.specs.Splices.{spliced_in_by}
use Rattle.bson_splice.specs.Steps.{IsAside, IsInside, IsOwn, StepsAs, StepsBy}

-- ---- the tests of the next one

module _ {A : Type 0} (start : A → ℕ) (at : ℕ) where
  -- it stands inside no document or array here
  abbrev pub Shut : Tree → List A → Type 0
  Shut (leaf tag bytes) xs = Unit {0}
  Shut (node tag is) xs = is_before_by start (at + length (framed (items_bytes is))) xs ≡ false

  pub aside : (t : Tree) (xs : List A) → IsAside (start_by start xs) at t → (begins_by start at xs ≡ false) × Shut t xs
  aside (leaf tag bytes) [] a = (refl, tt)
  aside (node tag is) [] a = (refl, refl)
  aside (leaf tag bytes) (x ∷ xs) a = (ne_eqb (start x) at a, tt)
  aside (node tag is) (x ∷ xs) a = (
    ne_eqb (start x) at a.0,
    le-ltb (start x) (at + length (framed (items_bytes is))) a.1,
  )

  pub begun : (xs : List A) → start_by start xs ≡ Some at → begins_by start at xs ≡ true
  begun [] e = absurd cc
  begun (x ∷ xs) e = eq-eqb (start x) at (ap (λ (o : Option ℕ). unwrap_or o at) e)

  pub inside : (tag : ℕ) (kids : Items) (xs : List A) → IsInside (start_by start xs) at (node tag kids)
      → (begins_by start at xs ≡ false) × (is_before_by start (at + length (framed (items_bytes kids))) xs ≡ true)
  inside tag kids [] i = absurd i
  inside tag kids (x ∷ xs) i = (
    ne_eqb (start x) at i.0,
    lt-ltb (start x) (at + length (framed (items_bytes kids))) i.1,
  )

  -- ---- what becomes of a value

  module _ (put : A → Tree → Tree) where
    -- the next one stands elsewhere
    pub keeps : (t : Tree) (xs : List A) → IsAside (start_by start xs) at t
        → (spliced_in_by start put at xs t ≡ t) × (left_in_by start at xs t ≡ xs)
    keeps (leaf tag bytes) xs a = let off = (aside (leaf tag bytes) xs a).0 in rw off (refl, refl)
    keeps (node tag is) xs a =
        let off = (aside (node tag is) xs a).0 in
        let shut = (aside (node tag is) xs a).1 in
        rw (off, shut) (refl, refl)

    -- the next one takes the value's own place
    pub puts : (t : Tree) (x : A) (xs rest : List A) → xs ≡ x ∷ rest → start x ≡ at
        → (spliced_in_by start put at xs t ≡ put x t) × (left_in_by start at xs t ≡ rest)
    puts (leaf tag bytes) x xs rest e s = let on : (start x == at) ≡ true = eq-eqb (start x) at s in
        rw (e, on) (refl, refl)
    puts (node tag is) x xs rest e s = let on : (start x == at) ≡ true = eq-eqb (start x) at s in
        rw (e, on) (refl, refl)

    -- the next one stands inside the value
    pub opens : (t : Tree) (tag : ℕ) (kids : Items) (xs : List A) → t ≡ node tag kids
        → IsInside (start_by start xs) at t
        → (spliced_in_by start put at xs t ≡ node tag (spliced_by start put (at + 4) xs kids))
        × (left_in_by start at xs t ≡ left_by start (at + 4) xs kids)
    opens t tag kids xs is i =
        let tests = inside tag kids xs (subst (λ (u : Tree). IsInside (start_by start xs) at u) is i) in
        let off = tests.0 in
        let on = tests.1 in
        rw (is, off, on) (refl, refl)

-- those that are left begin where the next one does
starts : {A : Type 0} (start : A → ℕ) (o : Option A) (xs rest : List A) → MatchOption o (xs ≡ []) (λ x. xs ≡ x ∷ rest)
    → start_by start xs ≡ option_map start o
starts start None xs rest e = ap (start_by start) e
starts start (Some x) xs rest e = ap (start_by start) e

-- ---- of an element, where the next one is known

module _ {A : Type 0} (start : A → ℕ) (o : Option A) (e : Elem) (xs rest : List A)
    (first : MatchOption o (xs ≡ []) (λ x. xs ≡ x ∷ rest)) where
  starts_at : start_by start xs ≡ option_map start o
  starts_at = starts start o xs rest first

  -- it is the first of them
  pub first_is : (x : A) → o ≡ Some x → xs ≡ x ∷ rest
  first_is x is = subst (λ (y : Option A). MatchOption y (xs ≡ []) (λ z. xs ≡ z ∷ rest)) is first

  -- one is left where its place is the element's own
  pub one_left : o ≡ None → StepsBy (option_map start o) e steps.Put → ⊥
  one_left none told = let gone = sym (ap (option_map start) none) ∙ told in absurd cc

  -- the tests where it is aside, its own, and inside
  pub aside_item : StepsBy (option_map start o) e steps.Keep
      → (begins_by start e.start xs ≡ false) × Shut start e.start e.tree xs
  aside_item told =
      aside start e.start e.tree xs (subst (λ (x : Option ℕ). IsAside x e.start e.tree) (sym starts_at) told)

  pub own_item : StepsBy (option_map start o) e steps.Put → begins_by start e.start xs ≡ true
  own_item told = begun start e.start xs (starts_at ∙ told)

  pub inside_item : (document : At) → StepsBy (option_map start o) e (steps.Open document)
      → (begins_by start e.start xs ≡ false)
      × (is_before_by start (e.start + length (framed (items_bytes document.tree))) xs ≡ true)
  inside_item document told =
      inside start e.start (tag_of e.tree) document.tree xs
      (subst (λ (x : Option ℕ). IsInside x e.start (node (tag_of e.tree) document.tree)) (sym starts_at)
      (subst (λ (u : Tree). IsInside (option_map start o) e.start u) told.0 told.2))

  module _ (put : A → Tree → Tree) where
    -- the element stays
    pub item_keeps : StepsBy (option_map start o) e steps.Keep
        → (spliced_in_by start put e.start xs e.tree ≡ e.tree) × (left_in_by start e.start xs e.tree ≡ xs)
    item_keeps told =
        keeps start e.start put e.tree xs (subst (λ (x : Option ℕ). IsAside x e.start e.tree) (sym starts_at) told)

    -- its value's place is taken
    pub item_puts : (x : A) → o ≡ Some x → StepsBy (option_map start o) e steps.Put
        → (spliced_in_by start put e.start xs e.tree ≡ put x e.tree) × (left_in_by start e.start xs e.tree ≡ rest)
    item_puts x is told =
        puts start e.start put e.tree x xs rest (first_is x is)
        (ap (λ (n : Option ℕ). unwrap_or n e.start) (sym (ap (option_map start) is) ∙ told))

    -- a place inside its document is taken
    pub item_opens : (document : At) → StepsBy (option_map start o) e (steps.Open document)
        → (spliced_in_by start put e.start xs e.tree
        ≡ node (tag_of e.tree) (spliced_by start put (document.start + 4) xs document.tree))
        × (left_in_by start e.start xs e.tree ≡ left_by start (document.start + 4) xs document.tree)
    item_opens document told =
        let i = opens start e.start put e.tree (tag_of e.tree) document.tree xs told.0
        (subst (λ (x : Option ℕ). IsInside x e.start e.tree) (sym starts_at) told.2) in (
          i.0 ∙ ap (λ (n : ℕ). node (tag_of e.tree) (spliced_by start put (n + 4) xs document.tree)) told.1,
          i.1 ∙ ap (λ (n : ℕ). left_by start (n + 4) xs document.tree) told.1,
        )

-- ---- what takes places

-- it begins where the next place does
pub fits_start : (next : Option ℕ) (ss : List Span) (ps : List Put)
    → MatchOption next (ss ≡ []) (λ at. IsNextAt ss at) → AreFits ss ps → start_by (λ (p : Put). p.start) ps ≡ next
fits_start None [] [] told f = refl
fits_start None [] (p ∷ ps) told f = absurd f
fits_start None (s ∷ ss) ps told f = absurd cc
fits_start (Some at) [] ps told f = absurd told
fits_start (Some at) (s ∷ ss) [] told f = absurd f
fits_start (Some at) (s ∷ ss) (p ∷ ps) told f = ap Some (f.0.start ∙ told)

pub steps_as : (next : Option ℕ) (e : Elem) (ps : List Put) (r : Step) → start_by (λ (p : Put). p.start) ps ≡ next
    → StepsBy next e r → StepsAs e ps r
steps_as next e ps steps.Keep same told =
    keeps (λ (p : Put). p.start) e.start (λ (p : Put). p.value) e.tree ps
    (subst (λ (o : Option ℕ). IsAside o e.start e.tree) (sym same) told)
steps_as next e ps steps.Put same told = tt
steps_as next e ps (steps.Open document) same told =
    let o = opens (λ (p : Put). p.start) e.start (λ (p : Put). p.value) e.tree (tag_of e.tree) document.tree ps told.0
    (subst (λ (o : Option ℕ). IsInside o e.start e.tree) (sym same) told.2) in (
      told.0,
      told.1,
      o.0
          ∙ ap (λ (n : ℕ). node (tag_of e.tree)
          (spliced_by (λ (p : Put). p.start) (λ (p : Put). p.value) (n + 4) ps document.tree)) told.1,
      o.1 ∙ ap (λ (n : ℕ). left_by (λ (p : Put). p.start) (n + 4) ps document.tree) told.1,
    )

pub own_by : (next : Option ℕ) (ss : List Span) (e : Elem) (r : Step)
    → MatchOption next (ss ≡ []) (λ at. IsNextAt ss at) → StepsBy next e r → IsOwn ss e r
own_by next ss e steps.Keep told by = tt
own_by None ss e steps.Put told by = absurd cc
own_by (Some at) ss e steps.Put told by = subst (IsNextAt ss) (ap (λ (o : Option ℕ). unwrap_or o at) by) told
own_by next ss e (steps.Open document) told by = tt
