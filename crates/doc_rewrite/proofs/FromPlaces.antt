-- A command that is sealed by its places is sealed by its stations.
use Rattle.std.proofs.Common.{◌≡◌, ℕ, zero, suc, ◌+◌, List, [], ◌∷◌, ◌++◌, length, Option, Some, None, unwrap_or}
use Rattle.std.proofs.Common.{option_map, option_and_then, refl, sym, ap, subst, arith}
use Rattle.bson_tree.specs.Tree.{Tree, leaf, node, Items, no_items, item}
use Rattle.bson_tree.specs.Spelling.{value_bytes}
use Rattle.bson_tree.specs.Places.{tree_at, value_at}
use Rattle.bson_tree.specs.Filled.{filled_in, filled_from}
use Rattle.encrypt_schema.specs.Commands.Chains.{Chain, onward, Link, link, chain_in, chain_from, parent_along, last_of}
use Rattle.encrypt_schema.specs.Commands.Chains.{station_along, targets_in, targets_from}
use Rattle.encrypt_schema.specs.Commands.Pointers.{Targets, pointed}
use Rattle.encrypt_schema.specs.Language.Row.{Row}
use Rattle.encrypt_schema.specs.Commands.Stations.{Station, Outside, station}
use Rattle.encrypt_schema.specs.Commands.Visits.{entry, command_entry}
use Rattle.doc_rewrite.specs.SealedTrees.{Use, use_of, rule_of, SealedBy, SealedIn, AreSealed}
use Rattle.doc_rewrite.specs.SealedCommand.{SealsAt, IsFilledCommand}

module _ (S : Use → Tree → Tree → Type 0) (rows : List Row) where
  -- the rule at the end of a chain that begins below a value of this station
  abbrev pub rule_along : Station → Option Chain → Option ℕ
  rule_along s links = option_and_then (λ l. rule_of (station rows (parent_along rows s l) (last_of l).entry)) links

  pub along_onward : (s : Station) (l : Link) (links : Option Chain)
      → rule_along s (option_map (onward l) links) ≡ rule_along (station rows s l.entry) links
  along_onward s l None = refl
  along_onward s l (Some links) = refl

  -- at a place with a rule and these targets of pointers
  abbrev pub SealsRuled : Targets → Option ℕ → Option Tree → Option Tree → Type 0
  SealsRuled ts o t u = SealsAt S (option_map (use_of rows ts) o) t u

  by_leaf : (ts : Targets) (tag : ℕ) (bytes : List ℕ) (o : Option ℕ) (u : Option Tree)
      → SealsRuled ts o (Some (leaf tag bytes)) u
      → SealedBy S rows ts o (leaf tag bytes) (unwrap_or u (leaf tag bytes))
      (unwrap_or u (leaf tag bytes) ≡ leaf tag bytes)
  by_leaf ts tag bytes None u e = ap (λ (x : Option Tree). unwrap_or x (leaf tag bytes)) e
  by_leaf ts tag bytes (Some i) (Some u) s = s
  by_leaf ts tag bytes (Some i) None s = absurd s

  by_node : (ts us : Targets) (at tag : ℕ) (is js : Items) (s : Station) (o : Option ℕ) (u : Option Tree)
      → SealsRuled ts o (Some (node tag is)) u → AreSealed S rows s us at is js
      → SealedBy S rows ts o (node tag is) (unwrap_or u (node tag js))
      ((ks : Items) × (unwrap_or u (node tag js) ≡ node tag ks) × AreSealed S rows s us at is ks)
  by_node ts us at tag is js s None u e among = (js, ap (λ (x : Option Tree). unwrap_or x (node tag js)) e, among)
  by_node ts us at tag is js s (Some i) (Some u) p among = p
  by_node ts us at tag is js s (Some i) None p among = absurd p

  mutual
    placed_in : (s : Station) (ts : Targets) (at : ℕ) (elder : List (List ℕ)) (name : List ℕ) (t : Tree)
        (f : List ℕ → Option Tree)
        → ((place : List ℕ) → SealsRuled (targets_in rows (station rows s (entry name t)) ts at place t)
        (rule_along s (chain_in elder name place t)) (tree_at place t) (f place))
        → SealedIn S rows (station rows s (entry name t)) ts at t (filled_in f t)
    placed_in s ts at elder name (leaf tag bytes) f h =
        by_leaf ts tag bytes (rule_of (station rows s (entry name (leaf tag bytes)))) (f []) (h [])
    placed_in s ts at elder name (node tag is) f h =
        let u = station rows s (entry name (node tag is)) in
        let us = pointed rows u ts at is in
        by_node ts us (at + 4) tag is (filled_from f 0 is) u (rule_of u) (f []) (h [])
        (placed_from u us (at + 4) [] 0 is f (λ n k place e.
        let same : k ≡ n = omega (arith, e) in
        subst (λ (m : ℕ). SealsRuled (targets_from rows u us (at + 4) k place is)
        (rule_along u (chain_from [] k place is)) (value_at (k ∷ place) is) (f (m ∷ place)))
        same
        (subst (λ (o : Option ℕ). SealsRuled (targets_from rows u us (at + 4) k place is) o (value_at (k ∷ place) is)
        (f (k ∷ place)))
        (along_onward s (link elder name (node tag is)) (chain_from [] k place is)) (h (k ∷ place)))))

    placed_from : (s : Station) (ts : Targets) (at : ℕ) (elder : List (List ℕ)) (i : ℕ) (is : Items)
        (f : List ℕ → Option Tree)
        → ((n k : ℕ) (place : List ℕ) → n ≡ i + k → SealsRuled (targets_from rows s ts at k place is)
        (rule_along s (chain_from elder k place is)) (value_at (k ∷ place) is) (f (n ∷ place)))
        → AreSealed S rows s ts at is (filled_from f i is)
    placed_from s ts at elder i no_items f h = refl
    placed_from s ts at elder i (item name t is) f h = (
      filled_in (λ place. f (i ∷ place)) t,
      filled_from f (i + 1) is,
      refl,
      placed_in s ts (at + (2 + length name)) elder name t (λ place. f (i ∷ place))
          (λ place. h i zero place (omega arith)),
      placed_from s ts (at + (2 + length name) + length (value_bytes t)) (elder ++ name ∷ []) (i + 1) is f
          (λ n k place e. h n (suc k) place (omega (arith, e))),
    )

  pub command_rule : (l : Link) (links : Option Chain)
      → option_and_then rule_of (option_map (station_along rows Outside) (option_map (onward l) links))
      ≡ rule_along (station rows Outside l.entry) links
  command_rule l None = refl
  command_rule l (Some links) = refl

  -- by places, and so by stations
  pub by_stations : (c d : Items) → IsFilledCommand S rows c d
      → AreSealed S rows (station rows Outside (command_entry c))
      (pointed rows (station rows Outside (command_entry c)) [] 0 c) 4 c d
  by_stations c d sealed =
      let s = station rows Outside (command_entry c) in
      let ts = pointed rows s [] 0 c in
      subst (AreSealed S rows s ts 4 c) (sym sealed.made)
      (placed_from s ts 4 [] 0 c sealed.f (λ n k place e.
      let same : k ≡ n = omega (arith, e) in
      subst (λ (m : ℕ). SealsRuled (targets_from rows s ts 4 k place c) (rule_along s (chain_from [] k place c))
      (value_at (k ∷ place) c) (sealed.f (m ∷ place))) same
      (subst (λ (o : Option ℕ). SealsRuled (targets_from rows s ts 4 k place c) o (value_at (k ∷ place) c)
      (sealed.f (k ∷ place)))
      (command_rule (link [] [] (node 3 c)) (chain_from [] k place c)) (sealed.exactly (k ∷ place)))))
