-- A sealed command has a spelling of as many levels as the command.
use Rattle.std.proofs.Common.{◌≡◌, ℕ, zero, suc, ◌<◌, ◌^◌, List, length, Option, Some, None, refl, sym, subst, arith}
use Rattle.bson_tree.specs.Tree.{Tree, leaf, node, Items, no_items, item}
use Rattle.bson_tree.specs.Spelling.{value_bytes, items_bytes, doc_bytes}
use Rattle.bson_tree.proofs.Sizes.{framed_size, element_size}
use Rattle.bson_codec.specs.declared.table.ValueLayout.{ValueLayout}
use Rattle.bson_codec.specs.declared.table.ValueLayout.TheVariants as values
use Rattle.bson_codec.specs.declared.table.RawLayout.TheVariants as raws
use Rattle.bson_codec.specs.Table.{layout_of}
use Rattle.bson_codec.specs.Layout.{IsItems, IsValue, AreElements, HasLayout}
use Rattle.encrypt_schema.specs.Language.Row.{Row}
use Rattle.encrypt_schema.specs.Commands.Stations.{Station, station}
use Rattle.encrypt_schema.specs.Commands.Visits.{entry}
use Rattle.payload6.specs.Marking.{binary}
use Rattle.doc_rewrite.specs.SealedTrees.{rule_of}
use Rattle.doc_rewrite.proofs.Covered.{CoveredBy, CoveredIn, AreCovered}

row_five : layout_of 5 ≡ Some (values.Raw raws.Binary)
unfolding layout_of
row_five = refl

-- a binary has its layout
pub binary_laid : (D : Items → Type 0) (contents : List ℕ) → length contents < 2 ^ 31 → IsValue D (binary 6 contents)
binary_laid D contents h =
    subst (λ (o : Option ValueLayout). HasLayout D o (binary 6 contents)) (sym row_five)
    (record { subtype = 6; contents = contents; fits = h; parts = refl })

node_laid : (D : Items → Type 0) (o : Option ValueLayout) (tag : ℕ) (is js : Items) → HasLayout D o (node tag is)
    → (D is → D js) → length (doc_bytes js) < 2 ^ 31 → HasLayout D o (node tag js)
node_laid D None tag is js laid f h = laid
node_laid D (Some values.Document) tag is js laid f h = record { inside = f laid.inside; fits = h }
node_laid D (Some (values.Raw layout)) tag is js laid f h = laid

module _ (S : ℕ → Tree → Tree → Type 0) (rows : List Row)
    (laid_S : (D : Items → Type 0) (i : ℕ) (t u : Tree) → S i t u → length (value_bytes u) < 2 ^ 31
    → IsValue D u) where
  laid_leaf : (D : Items → Type 0) (tag : ℕ) (bytes : List ℕ) (u : Tree) (o : Option ℕ)
      → CoveredBy S o (leaf tag bytes) u (u ≡ leaf tag bytes) → IsValue D (leaf tag bytes)
      → length (value_bytes u) < 2 ^ 31 → IsValue D u
  laid_leaf D tag bytes u (Some i) sealed laid h = laid_S D i (leaf tag bytes) u sealed h
  laid_leaf D tag bytes u None sealed laid h = subst (IsValue D) (sym sealed) laid

  laid_node : (D : Items → Type 0) (tag : ℕ) (is : Items) (u : Tree) (s : Station) (o : Option ℕ)
      → CoveredBy S o (node tag is) u ((js : Items) × (u ≡ node tag js) × AreCovered S rows s is js)
      → IsValue D (node tag is) → length (value_bytes u) < 2 ^ 31
      → ((js : Items) → AreCovered S rows s is js → length (items_bytes js) < 2 ^ 31 → D is → D js) → IsValue D u
  laid_node D tag is u s (Some i) sealed laid h f = laid_S D i (node tag is) u sealed h
  laid_node D tag is u s None sealed laid h f =
      let js = sealed.0 in
      let long : length (doc_bytes js) < 2 ^ 31 =
      subst (λ (x : Tree). length (value_bytes x) < 2 ^ 31) sealed.1 h in
      let short : length (items_bytes js) < 2 ^ 31 = omega (arith, long, framed_size (items_bytes js)) in
      subst (IsValue D) (sym sealed.1)
      (node_laid D (layout_of tag) tag is js laid (λ d. f js sealed.2 short d) long)

  at_levels : (levels : ℕ) (is js : Items) → IsItems levels is
      → ((l : ℕ) → AreElements (IsItems l) is → AreElements (IsItems l) js) → IsItems levels js
  at_levels zero is js laid f = absurd laid
  at_levels (suc l) is js laid f = f l laid

  mutual
    laid_in : (levels : ℕ) (s : Station) (t u : Tree) → CoveredIn S rows s t u → IsValue (IsItems levels) t
        → length (value_bytes u) < 2 ^ 31 → IsValue (IsItems levels) u
    laid_in levels s (leaf tag bytes) u sealed laid h =
        laid_leaf (IsItems levels) tag bytes u (rule_of s) sealed laid h
    laid_in levels s (node tag is) u sealed laid h =
        laid_node (IsItems levels) tag is u s (rule_of s) sealed laid h
        (λ js p short d. at_levels levels is js d (λ l e. laid_items l s is js p e short))

    pub laid_items : (levels : ℕ) (s : Station) (is js : Items) → AreCovered S rows s is js
        → AreElements (IsItems levels) is → length (items_bytes js) < 2 ^ 31 → AreElements (IsItems levels) js
    laid_items levels s no_items js sealed laid h = subst (AreElements (IsItems levels)) (sym sealed) tt
    laid_items levels s (item name t is) js sealed laid h =
        let u = sealed.0 in
        let ks = sealed.1 in
        let w = station rows s (entry name t) in
        let long : length (items_bytes (item name u ks)) < 2 ^ 31 =
        subst (λ (x : Items). length (items_bytes x) < 2 ^ 31) sealed.2 h in
        subst (AreElements (IsItems levels)) (sym sealed.2) (
          laid.0,
          laid_in levels w t u sealed.3 laid.1 (omega (arith, long, element_size name u ks)),
          laid_items levels s is ks sealed.4 laid.2 (omega (arith, long, element_size name u ks)),
        )
