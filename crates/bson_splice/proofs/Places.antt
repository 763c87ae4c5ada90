-- What is put in by places is what is put in by the offsets where they begin.
use Rattle.std.proofs.Common.{◌≡◌, ◌∙◌, ℕ, zero, suc, ◌+◌, List, [], ◌∷◌, length, Option, unwrap_or, option_and_then}
use Rattle.std.proofs.Common.{refl, ap, subst, arith}
use Rattle.bson_tree.specs.Tree.{Tree, leaf, node, Items, no_items, item}
use Rattle.bson_tree.specs.Places.{tree_at, value_at, start_in, start_from, start_of}
use Rattle.bson_tree.specs.Filled.{filled_in, filled_from, filled, fill_tree, fill_items}
use Rattle.bson_tree.specs.Spelling.{value_bytes}

module _ (g : ℕ → Tree → Option Tree) where
  mutual
    place_in : (at : ℕ) (t : Tree) (f : List ℕ → Option Tree)
        → ((place : List ℕ) → f place ≡ option_and_then (λ q. option_and_then (g q) (tree_at place t))
        (start_in place at t))
        → filled_in f t ≡ fill_tree g at t
    place_in at (leaf tag bytes) f h = ap (λ (o : Option Tree). unwrap_or o (leaf tag bytes)) (h [])
    place_in at (node tag is) f h =
        let kids : filled_from f 0 is ≡ fill_items g (at + 4) is =
        place_from (at + 4) 0 is f (λ n k place e.
        let same : k ≡ n = omega (arith, e) in
        subst (λ (m : ℕ). f (m ∷ place) ≡ option_and_then (λ q. option_and_then (g q) (value_at (k ∷ place) is))
        (start_from k place (at + 4) is)) same (h (k ∷ place))) in
        ap (λ (js : Items). unwrap_or (f []) (node tag js)) kids
        ∙ ap (λ (o : Option Tree). unwrap_or o (node tag (fill_items g (at + 4) is))) (h [])

    place_from : (at i : ℕ) (is : Items) (f : List ℕ → Option Tree)
        → ((n k : ℕ) (place : List ℕ) → n ≡ i + k → f (n ∷ place)
        ≡ option_and_then (λ q. option_and_then (g q) (value_at (k ∷ place) is)) (start_from k place at is))
        → filled_from f i is ≡ fill_items g at is
    place_from at i no_items f h = refl
    place_from at i (item name t is) f h =
        let one = place_in (at + (2 + length name)) t (λ place. f (i ∷ place))
        (λ place. h i zero place (omega arith)) in
        let others = place_from (at + (2 + length name) + length (value_bytes t)) (i + 1) is f
        (λ n k place e. h n (suc k) place (omega (arith, e))) in
        ap (λ (u : Tree). item name u (filled_from f (i + 1) is)) one
        ∙ ap (item name (fill_tree g (at + (2 + length name)) t)) others

  pub by_places : (f : List ℕ → Option Tree) (is : Items)
      → ((place : List ℕ) → f place ≡ option_and_then (λ q. option_and_then (g q) (value_at place is))
      (start_of place is))
      → filled f is ≡ fill_items g 4 is
  by_places f is h =
      place_from 4 0 is f (λ n k place e.
      let same : k ≡ n = omega (arith, e) in
      subst (λ (m : ℕ). f (m ∷ place) ≡ option_and_then (λ q. option_and_then (g q) (value_at (k ∷ place) is))
      (start_from k place 4 is)) same (h (k ∷ place)))
