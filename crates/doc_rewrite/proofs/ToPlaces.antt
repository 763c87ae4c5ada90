-- A command that is sealed by its stations is sealed by its places.
use Rattle.std.proofs.Common.{◌≡◌, ℕ, zero, suc, ◌+◌, List, [], ◌∷◌, ◌++◌, length, Option, Some, None, unwrap_or}
use Rattle.std.proofs.Common.{option_and_then, option_map, refl, sym, ap, ap₂, ◌∙◌, subst, arith, Bool, true, false}
use Rattle.std.proofs.Common.{codes, if◌then◌else◌}
use Rattle.bson_tree.specs.Tree.{Tree, leaf, node, Items, no_items, item}
use Rattle.bson_tree.specs.Spelling.{value_bytes}
use Rattle.bson_tree.specs.Places.{tree_at, value_at}
use Rattle.bson_tree.specs.Filled.{filled_in, filled_from}
use Rattle.encrypt_schema.specs.Commands.Chains.{Chain, last, onward, link, chain_in, chain_from, parent_along, last_of}
use Rattle.encrypt_schema.specs.Commands.Chains.{targets_in, targets_from, targets_at}
use Rattle.encrypt_schema.specs.Commands.Pointers.{Targets, pointed}
use Rattle.encrypt_schema.specs.Language.Names.{named}
use Rattle.encrypt_schema.specs.Language.Row.{Row}
use Rattle.encrypt_schema.specs.Commands.Stations.{Station, Outside, Store, Compare, Passed, Insert, Update}
use Rattle.encrypt_schema.specs.Commands.Stations.{Delete, Find, is_passed, station, command_of, library_of}
use Rattle.encrypt_schema.proofs.Commands.Tables.{library_elim}
use Rattle.encrypt_schema.specs.Commands.Visits.{entry, command_entry}
use Rattle.doc_rewrite.specs.SealedTrees.{Use, use_of, rule_of, SealedBy, SealedIn, AreSealed}
use Rattle.doc_rewrite.specs.SealedCommand.{rule_at, use_at, SealsAt, IsFilledCommand}
use Rattle.doc_rewrite.proofs.FromPlaces.{rule_along, along_onward, command_rule}

module _ (S : Use → Tree → Tree → Type 0) (rows : List Row) where
  abbrev here : Option ℕ → Option Tree → Option Tree
  here rule value = option_and_then (λ i. value) rule

  -- nothing below a passed value is protected, and nothing below a protected one
  passed_none : (l : Chain) → rule_of (station rows (parent_along rows Passed l) (last_of l).entry) ≡ None
  passed_none (last l) = refl
  passed_none (onward l rest) = passed_none rest

  store_none : (i : ℕ) (l : Chain) → rule_of (station rows (parent_along rows (Store i) l) (last_of l).entry) ≡ None
  store_none i (last l) = refl
  store_none i (onward l rest) = passed_none rest

  compare_none : (i : ℕ) (l : Chain) → rule_of (station rows (parent_along rows (Compare i) l) (last_of l).entry) ≡ None
  compare_none i (last l) = refl
  compare_none i (onward l rest) = passed_none rest

  below_rule : (s : Station) (i : ℕ) (links : Option Chain) → rule_of s ≡ Some i → rule_along S rows s links ≡ None
  below_rule s i None e = refl
  below_rule (Store j) i (Some l) e = store_none j l
  below_rule (Compare j) i (Some l) e = compare_none j l
  below_rule _ i (Some l) e = absurd cc

  -- ---- what is put in at the places

  fill_leaf : (ts : Targets) (tag : ℕ) (bytes : List ℕ) (u : Tree) (o : Option ℕ) (v : Option Tree)
      → SealedBy S rows ts o (leaf tag bytes) u (u ≡ leaf tag bytes) → v ≡ here o (Some u)
      → unwrap_or v (leaf tag bytes) ≡ u
  fill_leaf ts tag bytes u None v sealed e = ap (λ (x : Option Tree). unwrap_or x (leaf tag bytes)) e ∙ sym sealed
  fill_leaf ts tag bytes u (Some i) v sealed e = ap (λ (x : Option Tree). unwrap_or x (leaf tag bytes)) e

  fill_node : (ts us : Targets) (at tag : ℕ) (is filled' : Items) (u : Tree) (s : Station) (o : Option ℕ)
      (v : Option Tree)
      → SealedBy S rows ts o (node tag is) u ((js : Items) × (u ≡ node tag js) × AreSealed S rows s us at is js)
      → v ≡ here o (Some u)
      → (o ≡ None → (js : Items) → u ≡ node tag js → AreSealed S rows s us at is js → filled' ≡ js)
      → unwrap_or v (node tag filled') ≡ u
  fill_node ts us at tag is filled' u s None v sealed e inside =
      ap (λ (x : Option Tree). unwrap_or x (node tag filled')) e
      ∙ ap (node tag) (inside refl sealed.0 sealed.1 sealed.2) ∙ sym sealed.1
  fill_node ts us at tag is filled' u s (Some i) v sealed e inside =
      ap (λ (x : Option Tree). unwrap_or x (node tag filled')) e

  mutual
    filled_is : (s : Station) (ts : Targets) (at : ℕ) (elder : List (List ℕ)) (name : List ℕ) (t u : Tree)
        (f : List ℕ → Option Tree)
        → SealedIn S rows (station rows s (entry name t)) ts at t u
        → ((place : List ℕ) → f place ≡ here (rule_along S rows s (chain_in elder name place t)) (tree_at place u))
        → filled_in f t ≡ u
    filled_is s ts at elder name (leaf tag bytes) u f sealed h =
        fill_leaf ts tag bytes u (rule_of (station rows s (entry name (leaf tag bytes)))) (f []) sealed (h [])
    filled_is s ts at elder name (node tag is) u f sealed h =
        let w = station rows s (entry name (node tag is)) in
        let us = pointed rows w ts at is in
        fill_node ts us (at + 4) tag is (filled_from f 0 is) u w (rule_of w) (f []) sealed (h [])
        (λ none js e p. items_filled w us (at + 4) [] 0 is js f p (λ n k place q.
        ap (λ (m : ℕ). f (m ∷ place)) (omega (arith, q)) ∙ h (k ∷ place)
        ∙ ap₂ (λ (o : Option ℕ) (x : Tree). here o (tree_at (k ∷ place) x))
        (along_onward S rows s (link elder name (node tag is)) (chain_from [] k place is)) e))

    items_filled : (s : Station) (ts : Targets) (at : ℕ) (elder : List (List ℕ)) (i : ℕ) (is js : Items)
        (f : List ℕ → Option Tree)
        → AreSealed S rows s ts at is js
        → ((n k : ℕ) (place : List ℕ) → n ≡ i + k → f (n ∷ place)
        ≡ here (rule_along S rows s (chain_from elder k place is)) (value_at (k ∷ place) js))
        → filled_from f i is ≡ js
    items_filled s ts at elder i no_items js f sealed h = sym sealed
    items_filled s ts at elder i (item name t is) js f sealed h =
        let u = sealed.0 in
        let ks = sealed.1 in
        let h' : (n k : ℕ) (place : List ℕ) → n ≡ i + k
        → f (n ∷ place) ≡ here (rule_along S rows s (chain_from elder k place (item name t is)))
        (value_at (k ∷ place) (item name u ks)) =
        λ n k place e. h n k place e ∙ ap (λ (x : Items). here
        (rule_along S rows s (chain_from elder k place (item name t is))) (value_at (k ∷ place) x)) sealed.2 in
        ap₂ (λ (x : Tree) (xs : Items). item name x xs)
        (filled_is s ts (at + (2 + length name)) elder name t u (λ place. f (i ∷ place)) sealed.3
        (λ place. h' i zero place (omega arith)))
        (items_filled s ts (at + (2 + length name) + length (value_bytes t)) (elder ++ name ∷ []) (i + 1) is ks f
        sealed.4 (λ n k place e. h' n (suc k) place (omega (arith, e))))
        ∙ sym sealed.2

  -- ---- what each place is sealed to

  own_seal : (ts : Targets) (o : Option ℕ) (i : ℕ) (t u : Tree) (P : Type 0) → o ≡ Some i → SealedBy S rows ts o t u P
      → SealsAt S (Some (use_of rows ts i)) (Some t) (Some u)
  own_seal ts None i t u P e sealed = absurd cc
  own_seal ts (Some j) i t u P e sealed =
      let same : j ≡ i = cc in subst (λ (k : ℕ). S (use_of rows ts k) t u) same sealed

  -- what is inside a document that isn't protected itself
  inner_seal : (ts us : Targets) (at : ℕ) (o : Option ℕ) (tag i : ℕ) (is : Items) (u : Tree) (s : Station)
      (links : Option Chain) (usage : Use) (v : Option Tree) (n : ℕ) (place : List ℕ)
      → o ≡ rule_of s
      → SealedBy S rows ts o (node tag is) u ((js : Items) × (u ≡ node tag js) × AreSealed S rows s us at is js)
      → rule_along S rows s links ≡ Some i
      → ((js : Items) → AreSealed S rows s us at is js → SealsAt S (Some usage) v (value_at (n ∷ place) js))
      → SealsAt S (Some usage) v (tree_at (n ∷ place) u)
  inner_seal ts us at None tag i is u s links usage v n place e sealed r inside =
      subst (λ (x : Tree). SealsAt S (Some usage) v (tree_at (n ∷ place) x)) (sym sealed.1) (inside sealed.0 sealed.2)
  inner_seal ts us at (Some j) tag i is u s links usage v n place e sealed r inside =
      let none : rule_along S rows s links ≡ None = below_rule s j links (sym e) in absurd cc

  mutual
    seals_in : (s : Station) (ts : Targets) (at : ℕ) (elder : List (List ℕ)) (name : List ℕ) (t u : Tree)
        → SealedIn S rows (station rows s (entry name t)) ts at t u
        → (place : List ℕ) (i : ℕ) → rule_along S rows s (chain_in elder name place t) ≡ Some i
        → SealsAt S (Some (use_of rows (targets_in rows (station rows s (entry name t)) ts at place t) i))
        (tree_at place t) (tree_at place u)
    seals_in s ts at elder name (leaf tag bytes) u sealed [] i e =
        own_seal ts (rule_of (station rows s (entry name (leaf tag bytes)))) i (leaf tag bytes) u
        (u ≡ leaf tag bytes) e sealed
    seals_in s ts at elder name (leaf tag bytes) u sealed (n ∷ place) i e = absurd cc
    seals_in s ts at elder name (node tag is) u sealed [] i e =
        let w = station rows s (entry name (node tag is)) in
        own_seal ts (rule_of w) i (node tag is) u
        ((js : Items) × (u ≡ node tag js) × AreSealed S rows w (pointed rows w ts at is) (at + 4) is js) e sealed
    seals_in s ts at elder name (node tag is) u sealed (n ∷ place) i e =
        let w = station rows s (entry name (node tag is)) in
        let us = pointed rows w ts at is in
        let e' : rule_along S rows w (chain_from [] n place is) ≡ Some i =
        sym (along_onward S rows s (link elder name (node tag is)) (chain_from [] n place is)) ∙ e in
        inner_seal ts us (at + 4) (rule_of w) tag i is u w (chain_from [] n place is)
        (use_of rows (targets_from rows w us (at + 4) n place is) i)
        (value_at (n ∷ place) is) n place refl sealed e'
        (λ js p. seals_among w us (at + 4) [] is js p n place i e')

    seals_among : (s : Station) (ts : Targets) (at : ℕ) (elder : List (List ℕ)) (is js : Items)
        → AreSealed S rows s ts at is js
        → (k : ℕ) (place : List ℕ) (i : ℕ) → rule_along S rows s (chain_from elder k place is) ≡ Some i
        → SealsAt S (Some (use_of rows (targets_from rows s ts at k place is) i)) (value_at (k ∷ place) is)
        (value_at (k ∷ place) js)
    seals_among s ts at elder no_items js sealed k place i e = absurd cc
    seals_among s ts at elder (item name t is) js sealed zero place i e =
        let p = at + (2 + length name) in
        subst (λ (x : Items). SealsAt S
        (Some (use_of rows (targets_in rows (station rows s (entry name t)) ts p place t) i)) (tree_at place t)
        (value_at (0 ∷ place) x)) (sym sealed.2)
        (seals_in s ts p elder name t sealed.0 sealed.3 place i e)
    seals_among s ts at elder (item name t is) js sealed (suc k) place i e =
        let q = at + (2 + length name) + length (value_bytes t) in
        subst (λ (x : Items). SealsAt S (Some (use_of rows (targets_from rows s ts q k place is) i))
        (value_at (k ∷ place) is) (value_at (suc k ∷ place) x)) (sym sealed.2)
        (seals_among s ts q (elder ++ name ∷ []) is sealed.1 sealed.4 k place i e)

  -- the command itself is no protected value
  none_if : (a b c d e : Bool) (s : Station) → rule_of s ≡ None
      → rule_of (if a then Insert else if b then Update else if c then Delete else if d then Find else if e then Passed
      else s) ≡ None
  none_if true b c d e s h = refl
  none_if false true c d e s h = refl
  none_if false false true d e s h = refl
  none_if false false false true e s h = refl
  none_if false false false false true s h = refl
  none_if false false false false false s h = h

  pub command_none : (names : List (List ℕ)) → rule_of (command_of names) ≡ None
  command_none [] = refl
  command_none (name ∷ names) =
      none_if (named name (codes "insert")) (named name (codes "update")) (named name (codes "delete"))
      (named name (codes "find")) (is_passed name) (library_of name)
      (library_elim (λ s. rule_of s ≡ None) (λ l c. refl) refl name)

  seals_at : (ts : Targets) (o : Option ℕ) (v w : Option Tree)
      → ((i : ℕ) → o ≡ Some i → SealsAt S (Some (use_of rows ts i)) v w)
      → SealsAt S (option_map (use_of rows ts) o) v (here o w)
  seals_at ts None v w h = refl
  seals_at ts (Some i) v w h = h i refl

  abbrev put_in : Items → Items → List ℕ → Option Tree
  put_in c d place = here (rule_at rows c place) (value_at place d)

  -- a command that is sealed, by its stations
  abbrev Whole : Items → Items → Type 0
  Whole c d =
      AreSealed S rows (station rows Outside (command_entry c))
      (pointed rows (station rows Outside (command_entry c)) [] 0 c) 4 c d

  exact : (c d : Items) → Whole c d → (place : List ℕ)
      → SealsAt S (use_at rows c place) (value_at place c) (put_in c d place)
  exact c d sealed [] = seals_at (targets_at rows 0 c []) (rule_at rows c []) None None (λ i e.
      let none : rule_at rows c [] ≡ None = command_none (command_entry c).names in absurd cc)
  exact c d sealed (k ∷ place) =
      let s = station rows Outside (command_entry c) in
      seals_at (targets_at rows 0 c (k ∷ place)) (rule_at rows c (k ∷ place)) (value_at (k ∷ place) c)
      (value_at (k ∷ place) d)
      (λ i e. seals_among s (pointed rows s [] 0 c) 4 [] c d sealed k place i
      (sym (command_rule S rows (link [] [] (node 3 c)) (chain_from [] k place c)) ∙ e))

  pub to_places : (c d : Items) → Whole c d → IsFilledCommand S rows c d
  to_places c d sealed =
      let s = station rows Outside (command_entry c) in
      record {
        f = put_in c d;
        made = sym (items_filled s (pointed rows s [] 0 c) 4 [] 0 c d (put_in c d) sealed (λ n k place e.
            let same : n ≡ k = omega (arith, e) in
            ap (λ (m : ℕ). put_in c d (m ∷ place)) same
            ∙ ap (λ (o : Option ℕ). here o (value_at (k ∷ place) d))
            (command_rule S rows (link [] [] (node 3 c)) (chain_from [] k place c))));
        exactly = exact c d sealed;
      }
