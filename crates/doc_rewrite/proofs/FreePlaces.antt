-- A command with no payload outside its protected values, told by stations and by places.
use Rattle.std.proofs.Common.{◌≡◌, ℕ, zero, suc, Bool, true, false, List, [], ◌∷◌, ◌++◌, Option, Some, None}
use Rattle.std.proofs.Common.{option_map, refl, sym, ◌∙◌, subst}
use Rattle.std.specs.Option.{option_map_or}
use Rattle.std.specs.Prelude.{not}
use Rattle.bson_tree.specs.Tree.{Tree, leaf, node, Items, no_items, item}
use Rattle.bson_tree.specs.Places.{tree_at, value_at}
use Rattle.encrypt_schema.specs.Commands.Chains.{Chain, onward, Link, link, chain_in, chain_from, is_below_role}
use Rattle.encrypt_schema.specs.Commands.Stations.{Station, Outside, Store, Compare, station, has_role}
use Rattle.encrypt_schema.specs.Commands.Visits.{entry, command_entry}
use Rattle.encrypt_schema.specs.Language.Row.{Row}
use Rattle.doc_rewrite.specs.Founds.{is_sealed, opens_here}
use Rattle.doc_rewrite.specs.PayloadFree.{FreeBy, IsFreeIn, AreFree, IsPayloadFree, IsPayloadFreeByPlaces}
use Rattle.doc_rewrite.specs.SealedTrees.{Use, rule_of}
use Rattle.doc_rewrite.proofs.FromPlaces.{rule_along, along_onward, command_rule}
use Rattle.doc_rewrite.proofs.ToPlaces.{command_none}

-- a station without a rule has no role, and one with a rule has one
roleless : (s : Station) → rule_of s ≡ None → has_role s ≡ false
roleless (Store i) e = absurd cc
roleless (Compare i) e = absurd cc
roleless _ e = refl

with_role : (s : Station) (i : ℕ) → rule_of s ≡ Some i → has_role s ≡ true
with_role (Store j) i e = refl
with_role (Compare j) i e = refl
with_role _ i e = absurd cc

module _ (rows : List Row) where
  abbrev Any : Use → Tree → Tree → Type 0
  Any usage t u = Unit {0}

  -- the rule at the end of a chain below a value of this station, and whether no ancestor there is protected
  abbrev along : Station → Option Chain → Option ℕ
  along s links = rule_along Any rows s links

  abbrev visible : Station → Option Chain → Bool
  visible s links = option_map_or (λ l. not (is_below_role rows s l)) links false

  visible_onward : (s : Station) (l : Link) (links : Option Chain) → rule_of (station rows s l.entry) ≡ None
      → visible s (option_map (onward l) links) ≡ visible (station rows s l.entry) links
  visible_onward s l None e = refl
  visible_onward s l (Some links) e = let off = roleless (station rows s l.entry) e in rw off refl

  hidden_onward : (s : Station) (l : Link) (links : Option Chain) (i : ℕ) → rule_of (station rows s l.entry) ≡ Some i
      → visible s (option_map (onward l) links) ≡ false
  hidden_onward s l None i e = refl
  hidden_onward s l (Some links) i e = let on = with_role (station rows s l.entry) i e in rw on refl

  -- what is asked of the values at places inside
  abbrev FreeAt : Option Chain → Station → Option Tree → Type 0
  FreeAt links s v = (u : Tree) → visible s links ≡ true → along s links ≡ None → v ≡ Some u → opens_here u ≡ false

  onward_at : (s : Station) (l : Link) (links : Option Chain) (v : Option Tree)
      → rule_of (station rows s l.entry) ≡ None
      → FreeAt (option_map (onward l) links) s v → FreeAt links (station rows s l.entry) v
  onward_at s l links v e h u seen none is =
      h u (visible_onward s l links e ∙ seen) (along_onward Any rows s l links ∙ none) is

  back_at : (s : Station) (l : Link) (links : Option Chain) (v : Option Tree) → rule_of (station rows s l.entry) ≡ None
      → FreeAt links (station rows s l.entry) v → FreeAt (option_map (onward l) links) s v
  back_at s l links v e h u seen none is =
      h u (sym (visible_onward s l links e) ∙ seen) (sym (along_onward Any rows s l links) ∙ none) is

  -- ---- from places

  leaf_free : (tag : ℕ) (bytes : List ℕ) (o : Option ℕ) → (o ≡ None → is_sealed tag bytes ≡ false)
      → FreeBy o (is_sealed tag bytes ≡ false)
  leaf_free tag bytes None h = h refl
  leaf_free tag bytes (Some i) h = tt

  node_free : (s : Station) (is : Items) (o : Option ℕ) → (o ≡ None → AreFree rows s is) → FreeBy o (AreFree rows s is)
  node_free s is None h = h refl
  node_free s is (Some i) h = tt

  mutual
    free_in : (s : Station) (elder : List (List ℕ)) (name : List ℕ) (t : Tree)
        → ((place : List ℕ) → FreeAt (chain_in elder name place t) s (tree_at place t))
        → IsFreeIn rows (station rows s (entry name t)) t
    free_in s elder name (leaf tag bytes) h =
        leaf_free tag bytes (rule_of (station rows s (entry name (leaf tag bytes))))
        (λ e. h [] (leaf tag bytes) refl e refl)
    free_in s elder name (node tag is) h =
        let w = station rows s (entry name (node tag is)) in
        node_free w is (rule_of w) (λ e. free_from w [] is (λ k place.
        onward_at s (link elder name (node tag is)) (chain_from [] k place is) (value_at (k ∷ place) is) e
        (h (k ∷ place))))

    free_from : (s : Station) (elder : List (List ℕ)) (is : Items)
        → ((k : ℕ) (place : List ℕ) → FreeAt (chain_from elder k place is) s (value_at (k ∷ place) is))
        → AreFree rows s is
    free_from s elder no_items h = tt
    free_from s elder (item name t is) h = (
      free_in s elder name t (λ place. h zero place),
      free_from s (elder ++ name ∷ []) is (λ k place. h (suc k) place),
    )

  -- ---- to places

  own_free : (P : Type 0) (o : Option ℕ) → FreeBy o P → o ≡ None → P
  own_free P None free e = free
  own_free P (Some i) free e = absurd cc

  inner_at : (s : Station) (l : Link) (links : Option Chain) (v : Option Tree) (P : Type 0) (o : Option ℕ)
      → rule_of (station rows s l.entry) ≡ o → FreeBy o P → (P → FreeAt links (station rows s l.entry) v)
      → FreeAt (option_map (onward l) links) s v
  inner_at s l links v P None e free h = back_at s l links v e (h free)
  inner_at s l links v P (Some i) e free h =
      λ u seen none is. let hidden = hidden_onward s l links i e in absurd cc

  mutual
    clear_in : (s : Station) (elder : List (List ℕ)) (name : List ℕ) (t : Tree)
        → IsFreeIn rows (station rows s (entry name t)) t
        → (place : List ℕ) → FreeAt (chain_in elder name place t) s (tree_at place t)
    clear_in s elder name (leaf tag bytes) free [] u seen none is =
        let same : leaf tag bytes ≡ u = cc in
        subst (λ (x : Tree). opens_here x ≡ false) same
        (own_free (is_sealed tag bytes ≡ false) (rule_of (station rows s (entry name (leaf tag bytes)))) free none)
    clear_in s elder name (leaf tag bytes) free (k ∷ place) u seen none is = absurd cc
    clear_in s elder name (node tag is) free [] u seen none e =
        let same : node tag is ≡ u = cc in
        subst (λ (x : Tree). opens_here x ≡ false) same refl
    clear_in s elder name (node tag is) free (k ∷ place) u seen none e =
        let w = station rows s (entry name (node tag is)) in
        inner_at s (link elder name (node tag is)) (chain_from [] k place is) (value_at (k ∷ place) is)
        (AreFree rows w is) (rule_of w) refl free (λ f. clear_from w [] is f k place) u seen none e

    clear_from : (s : Station) (elder : List (List ℕ)) (is : Items) → AreFree rows s is
        → (k : ℕ) (place : List ℕ) → FreeAt (chain_from elder k place is) s (value_at (k ∷ place) is)
    clear_from s elder no_items free k place u seen none e = absurd cc
    clear_from s elder (item name t is) free zero place u seen none e =
        clear_in s elder name t free.0 place u seen none e
    clear_from s elder (item name t is) free (suc k) place u seen none e =
        clear_from s (elder ++ name ∷ []) is free.1 k place u seen none e

  -- ---- the command itself is no value, and isn't protected

  pub from_places : (c : Items) → IsPayloadFreeByPlaces rows c → IsPayloadFree rows c
  from_places c h =
      let l = link [] [] (node 3 c) in
      let off = command_none Any rows (command_entry c).names in
      free_from (station rows Outside (command_entry c)) [] c (λ k place u seen none e.
      h (k ∷ place) u (visible_onward Outside l (chain_from [] k place c) off ∙ seen)
      (command_rule Any rows l (chain_from [] k place c) ∙ none) e)

  pub to_free_places : (c : Items) → IsPayloadFree rows c → IsPayloadFreeByPlaces rows c
  to_free_places c free [] u seen none e = absurd cc
  to_free_places c free (k ∷ place) u seen none e =
      let l = link [] [] (node 3 c) in
      let off = command_none Any rows (command_entry c).names in
      clear_from (station rows Outside (command_entry c)) [] c free k place u
      (sym (visible_onward Outside l (chain_from [] k place c) off) ∙ seen)
      (sym (command_rule Any rows l (chain_from [] k place c)) ∙ none) e
