-- The way down leads to the place of an offset.
use Rattle.std.proofs.Common.{◌≡◌, ℕ, ◌+◌, ◌<◌, Bool, true, false, cond, eqb, List, [], ◌∷◌, ◌++◌, length, Option, Some}
use Rattle.std.proofs.Common.{None, refl, sym, ap, subst, ◌∙◌, arith, append_assoc, append-nil}
use Rattle.std.specs.Prelude.{option_map}
use Rattle.std.proofs.lemmas.Bool.{ne_eqb}
use Rattle.bson_tree.specs.Tree.{Tree, Items, leaf, node, no_items, item, tree_size, items_size}
use Rattle.bson_tree.specs.Spelling.{value_bytes}
use Rattle.bson_tree.specs.Places.{start_of, place_of}
use Rattle.bson_codec.specs.Borrowed.{Elem}
use Rattle.bson_codec.proofs.Spots.{same, place_begun, place_none}
use Rattle.bson_codec.specs.Borrowed.{holds, holding}
use Rattle.bson_codec.proofs.Ways.{spot_in, spot_from, below}
use Rattle.bson_codec.proofs.Descent.{if_true, if_false, found_from, begins_from}

-- ---- the way down leads to the place

no_start : (at : ℕ) (is : Items) → spot_from at 0 4 is ≡ None → (place : List ℕ) → start_of place is ≡ Some at → ⊥
no_start at is none [] e = cc
no_start at is none (i ∷ place) e = let found = found_from i place at 0 4 is e in cc

by_spot : (at : ℕ) (is : Items) (o : Option (List ℕ)) → spot_from at 0 4 is ≡ o → place_of at is ≡ below [] o
by_spot at is None e = place_none at is (no_start at is e)
by_spot at is (Some place) e =
    let led = begins_from place at 0 4 is e in
    place_begun at is (led.number ∷ led.inner) led.begins ∙ ap (λ (n : ℕ). n ∷ led.inner) (omega arith) ∙ sym led.parts

pub place_is : (at : ℕ) (is : Items) → place_of at is ≡ below [] (spot_from at 0 4 is)
place_is at is = by_spot at is (spot_from at 0 4 is) refl

-- ---- one step of the way

-- the place below `steps` in the element found; the document itself where none was found
abbrev on : List ℕ → ℕ → Option (ℕ × Elem) → List ℕ
on steps at None = []
on steps at (Some x) = below (steps ++ x.0 ∷ []) (spot_in at x.1.start x.1.tree)

below_more : (steps : List ℕ) (i : ℕ) (o : Option (List ℕ))
    → below steps (option_map (λ (p : List ℕ). i ∷ p) o) ≡ below (steps ++ i ∷ []) o
below_more steps i None = refl
below_more steps i (Some place) = sym (append_assoc steps (i ∷ []) place)

step_by : (steps : List ℕ) (at i : ℕ) (e : Elem) (b : Bool) (spot : Option (List ℕ)) (found : Option (ℕ × Elem))
    → below steps spot ≡ on steps at found
    → below steps (cond b (option_map (λ (p : List ℕ). i ∷ p) (spot_in at e.start e.tree)) spot)
    ≡ on steps at (cond b (Some (i, e)) found)
step_by steps at i e true spot found h = below_more steps i (spot_in at e.start e.tree)
step_by steps at i e false spot found h = h

one_step : (steps : List ℕ) (at i start : ℕ) (is : Items)
    → below steps (spot_from at i start is) ≡ on steps at (holding at i start is)
one_step steps at i start no_items = refl
one_step steps at i start (item name t is) =
    let e : Elem = record { name = name; tree = t; start = start + (2 + length name) } in
    step_by steps at i e (holds at e) _ _ (one_step steps at (i + 1)
    (start + (2 + length name) + length (value_bytes t)) is)

-- the size of the element found; 0 where none was
abbrev size_found : Option (ℕ × Elem) → ℕ
size_found None = 0
size_found (Some x) = tree_size x.1.tree

smaller_by : (b : Bool) (i size : ℕ) (e : Elem) (found : Option (ℕ × Elem)) → tree_size e.tree < size
    → size_found found < size → size_found (cond b (Some (i, e)) found) < size
smaller_by true i size e found here there = here
smaller_by false i size e found here there = there

found_smaller : (at i start : ℕ) (is : Items) → size_found (holding at i start is) < items_size is
found_smaller at i start no_items = omega arith
found_smaller at i start (item name t is) =
    let e : Elem = record { name = name; tree = t; start = start + (2 + length name) } in
    let later = found_smaller at (i + 1) (start + (2 + length name) + length (value_bytes t)) is in
    smaller_by (holds at e) i (items_size (item name t is)) e _ (omega arith) (omega (arith, later))

-- ---- the turns of the way, after the element that was found

spot_here : (at start : ℕ) (t : Tree) → start ≡ at → spot_in at start t ≡ Some []
spot_here at start (leaf tag bytes) e = if_true (eqb start at) _ _ _
    (ap (λ (n : ℕ). eqb start n) (sym e) ∙ same start) refl
spot_here at start (node tag is) e = if_true (eqb start at) _ _ _
    (ap (λ (n : ℕ). eqb start n) (sym e) ∙ same start) refl

module _ (steps : List ℕ) (at i start : ℕ) (is : Items) where
  pub ends_nowhere : None ≡ holding at i start is → below steps (spot_from at i start is) ≡ []
  ends_nowhere found = one_step steps at i start is ∙ ap (on steps at) (sym found)

  module _ (n : ℕ) (e : Elem) (found : Some (n, e) ≡ holding at i start is) where
    stepped : below steps (spot_from at i start is) ≡ below (steps ++ n ∷ []) (spot_in at e.start e.tree)
    stepped = one_step steps at i start is ∙ ap (on steps at) (sym found)

    pub ends_here : e.start ≡ at → below steps (spot_from at i start is) ≡ steps ++ n ∷ []
    ends_here here = stepped ∙ ap (below (steps ++ n ∷ [])) (spot_here at e.start e.tree here)
        ∙ append-nil (steps ++ n ∷ [])

    pub ends_in_leaf : (tag : ℕ) (bytes : List ℕ) → (e.start ≡ at → ⊥) → e.tree ≡ leaf tag bytes
        → below steps (spot_from at i start is) ≡ []
    ends_in_leaf tag bytes other tree =
        stepped ∙ ap (λ (t : Tree). below (steps ++ n ∷ []) (spot_in at e.start t)) tree
        ∙ ap (below (steps ++ n ∷ [])) (if_false (eqb e.start at) (Some []) None None (ne_eqb e.start at other) refl)

    pub goes_on : (tag : ℕ) (inner : Items) → (e.start ≡ at → ⊥) → e.tree ≡ node tag inner
        → below steps (spot_from at i start is) ≡ below (steps ++ n ∷ []) (spot_from at 0 (e.start + 4) inner)
    goes_on tag inner other tree =
        stepped ∙ ap (λ (t : Tree). below (steps ++ n ∷ []) (spot_in at e.start t)) tree
        ∙ ap (below (steps ++ n ∷ [])) (if_false (eqb e.start at) (Some []) (spot_from at 0 (e.start + 4) inner) _
        (ne_eqb e.start at other) refl)

    pub is_smaller : (tag : ℕ) (inner : Items) → e.tree ≡ node tag inner → items_size inner < items_size is
    is_smaller tag inner tree =
        let size : tree_size e.tree < items_size is =
        subst (λ (o : Option (ℕ × Elem)). size_found o < items_size is) (sym found) (found_smaller at i start is) in
        omega (arith, size, ap tree_size tree)
