-- What stands for protected values, told by stations and rules alone, whatever names their keys.
use Rattle.std.proofs.Common.{◌≡◌, ℕ, ◌+◌, List, length, Option, Some, None}
use Rattle.bson_tree.specs.Tree.{Tree, leaf, node, Items, no_items, item}
use Rattle.bson_tree.specs.Spelling.{value_bytes}
use Rattle.encrypt_schema.specs.Language.Row.{Row}
use Rattle.encrypt_schema.specs.Commands.Pointers.{Targets, pointed}
use Rattle.encrypt_schema.specs.Commands.Stations.{Station, station}
use Rattle.encrypt_schema.specs.Commands.Visits.{entry}
use Rattle.doc_rewrite.specs.SealedTrees.{Use, use_of, rule_of, SealedBy, SealedIn, AreSealed}

-- a protected value t and what stands for it are related by S under its rule; of another value P holds
abbrev pub CoveredBy : (ℕ → Tree → Tree → Type 0) → Option ℕ → Tree → Tree → Type 0 → Type 0
CoveredBy S (Some i) t u P = S i t u
CoveredBy S None t u P = P

abbrev mutual
  -- a value of this station, and what stands for it: the value itself but for what is covered inside it
  pub CoveredIn : (ℕ → Tree → Tree → Type 0) → List Row → Station → Tree → Tree → Type 0
  CoveredIn S rows s (leaf tag bytes) u = CoveredBy S (rule_of s) (leaf tag bytes) u (u ≡ leaf tag bytes)
  CoveredIn S rows s (node tag is) u =
      CoveredBy S (rule_of s) (node tag is) u ((js : Items) × (u ≡ node tag js) × AreCovered S rows s is js)

  -- the same for elements of a document of this station
  pub AreCovered : (ℕ → Tree → Tree → Type 0) → List Row → Station → Items → Items → Type 0
  AreCovered S rows s no_items js = js ≡ no_items
  AreCovered S rows s (item name t is) js =
      (u : Tree)
      × (ks : Items)
      × (js ≡ item name u ks)
      × CoveredIn S rows (station rows s (entry name t)) t u
      × AreCovered S rows s is ks

-- what is sealed under uses is so under rules, where S of a use says R of its rule
module _ (S : Use → Tree → Tree → Type 0) (R : ℕ → Tree → Tree → Type 0) (rows : List Row)
    (weaker : (ts : Targets) (i : ℕ) (t u : Tree) → S (use_of rows ts i) t u → R i t u) where
  weak_leaf : (ts : Targets) (tag : ℕ) (bytes : List ℕ) (u : Tree) (o : Option ℕ)
      → SealedBy S rows ts o (leaf tag bytes) u (u ≡ leaf tag bytes)
      → CoveredBy R o (leaf tag bytes) u (u ≡ leaf tag bytes)
  weak_leaf ts tag bytes u (Some i) sealed = weaker ts i (leaf tag bytes) u sealed
  weak_leaf ts tag bytes u None sealed = sealed

  weak_node : (ts us : Targets) (at tag : ℕ) (is : Items) (u : Tree) (s : Station) (o : Option ℕ)
      → SealedBy S rows ts o (node tag is) u ((js : Items) × (u ≡ node tag js) × AreSealed S rows s us at is js)
      → ((js : Items) → AreSealed S rows s us at is js → AreCovered R rows s is js)
      → CoveredBy R o (node tag is) u ((js : Items) × (u ≡ node tag js) × AreCovered R rows s is js)
  weak_node ts us at tag is u s (Some i) sealed inside = weaker ts i (node tag is) u sealed
  weak_node ts us at tag is u s None sealed inside = (sealed.0, sealed.1, inside sealed.0 sealed.2)

  mutual
    weak_in : (s : Station) (ts : Targets) (at : ℕ) (t u : Tree) → SealedIn S rows s ts at t u → CoveredIn R rows s t u
    weak_in s ts at (leaf tag bytes) u sealed = weak_leaf ts tag bytes u (rule_of s) sealed
    weak_in s ts at (node tag is) u sealed =
        weak_node ts (pointed rows s ts at is) (at + 4) tag is u s (rule_of s) sealed
        (λ js p. covered_items s (pointed rows s ts at is) (at + 4) is js p)

    pub covered_items : (s : Station) (ts : Targets) (at : ℕ) (is js : Items) → AreSealed S rows s ts at is js
        → AreCovered R rows s is js
    covered_items s ts at no_items js sealed = sealed
    covered_items s ts at (item name t is) js sealed = (
      sealed.0,
      sealed.1,
      sealed.2,
      weak_in (station rows s (entry name t)) ts (at + (2 + length name)) t sealed.0 sealed.3,
      covered_items s ts (at + (2 + length name) + length (value_bytes t)) is sealed.1 sealed.4,
    )
