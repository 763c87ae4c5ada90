-- What takes the places of a command's protected values opens to them: so the whole opens to the command.
use Rattle.std.proofs.Common.{◌≡◌, ℕ, zero, suc, ◌+◌, ◌-◌, ◌≤◌, true, false, List, [], ◌∷◌, ◌++◌, length, Option}
use Rattle.std.proofs.Common.{Some, None, refl, sym, ap, ◌∙◌, subst, arith}
use Rattle.std.proofs.lemmas.Bool.{false≢true}
use Rattle.bson_tree.specs.Tree.{Tree, leaf, node, Items, no_items, item}
use Rattle.bson_tree.specs.Spelling.{value_bytes}
use Rattle.bson_tree.specs.Filled.{fill_tree}
use Rattle.bson_codec.specs.declared.table.ValueLayout.{ValueLayout}
use Rattle.bson_codec.specs.declared.table.ValueLayout.TheVariants as values
use Rattle.bson_codec.specs.Table.{layout_of}
use Rattle.bson_codec.specs.Layout.{IsItems, IsValue, AreElements, HasLayout}
use Rattle.encrypt_schema.specs.Language.Row.{Row}
use Rattle.encrypt_schema.specs.Commands.Stations.{Station, station}
use Rattle.encrypt_schema.specs.Commands.Visits.{entry}
use Rattle.doc_rewrite.specs.Founds.{contents_of, is_sealed, opens_here, Place, founds_in, founds}
use Rattle.doc_rewrite.specs.Founds.{opened_value, opened_items}
use Rattle.doc_rewrite.specs.PayloadFree.{FreeBy, IsFreeIn, AreFree}
use Rattle.doc_rewrite.specs.SealedTrees.{rule_of}
use Rattle.doc_rewrite.proofs.Covered.{CoveredBy, CoveredIn, AreCovered}

-- the document of a value has its layout
node_laid : (D : Items → Type 0) (o : Option ValueLayout) (tag : ℕ) (is : Items) → HasLayout D o (node tag is) → D is
node_laid D None tag is laid = absurd laid
node_laid D (Some values.Document) tag is laid = laid.inside
node_laid D (Some (values.Raw layout)) tag is laid = absurd laid

module _ (value : List ℕ → Tree) (Right : ℕ → List ℕ → Type 0) where
  -- each of these payloads is right
  abbrev pub AreRight : List Place → Type 0
  AreRight [] = Unit {0}
  AreRight (p ∷ ps) = Right p.levels p.contents × AreRight ps

  right_append : (ps qs : List Place) → AreRight ps → AreRight qs → AreRight (ps ++ qs)
  right_append [] qs a b = b
  right_append (p ∷ ps) qs a b = (a.0, right_append ps qs a.1 b)

  -- a value that takes the place of another one opens to it
  pub record IsBack (levels : ℕ) (t u : Tree) : Type 0 where
    pub here : opens_here u ≡ true
    pub opens : value (contents_of u) ≡ t
    pub right : Right levels (contents_of u)

  record BackIn (levels at : ℕ) (t u : Tree) : Type 0 where
    pub filled : fill_tree (opened_value value) at u ≡ t
    pub right : AreRight (founds_in levels at u)

  pub record Back (levels at : ℕ) (is js : Items) : Type 0 where
    pub filled : opened_items value at js ≡ is
    pub right : AreRight (founds levels at js)

  at_levels : (levels at : ℕ) (is js : Items) → levels ≤ 99 → IsItems levels is
      → ((l : ℕ) → l ≤ 99 → AreElements (IsItems l) is → Back l at is js) → Back (levels - 1) at is js
  at_levels zero at is js low laid f = absurd laid
  at_levels (suc l) at is js low laid f =
      let less : l ≡ suc l - 1 = omega arith in
      subst (λ (n : ℕ). Back n at is js) less (f l (omega (arith, low)) laid)

  of_sealed : (levels at : ℕ) (t u : Tree) → IsBack levels t u → BackIn levels at t u
  of_sealed levels at t (leaf tag bytes) b = record {
    filled = rw b.here b.opens;
    right = rw b.here (b.right, tt);
  }
  of_sealed levels at t (node tag is) b = absurd (false≢true b.here)

  module _ (S : ℕ → Tree → Tree → Type 0) (rows : List Row)
      (back : (levels i : ℕ) (t u : Tree) → levels ≤ 99 → S i t u → IsValue (IsItems levels) t
      → IsBack levels t u) where
    of_leaf : (levels at tag : ℕ) (bytes : List ℕ) (u : Tree) (o : Option ℕ) → levels ≤ 99
        → CoveredBy S o (leaf tag bytes) u (u ≡ leaf tag bytes) → FreeBy o (is_sealed tag bytes ≡ false)
        → IsValue (IsItems levels) (leaf tag bytes) → BackIn levels at (leaf tag bytes) u
    of_leaf levels at tag bytes u (Some i) low sealed free laid =
        of_sealed levels at (leaf tag bytes) u (back levels i (leaf tag bytes) u low sealed laid)
    of_leaf levels at tag bytes u None low sealed free laid =
        subst (BackIn levels at (leaf tag bytes)) (sym sealed) (record { filled = rw free refl; right = rw free tt })

    of_node : (levels at tag : ℕ) (is : Items) (u : Tree) (s : Station) (o : Option ℕ) → levels ≤ 99
        → CoveredBy S o (node tag is) u ((js : Items) × (u ≡ node tag js) × AreCovered S rows s is js)
        → FreeBy o (AreFree rows s is) → IsValue (IsItems levels) (node tag is)
        → ((js : Items) → AreCovered S rows s is js → AreFree rows s is → Back (levels - 1) (at + 4) is js)
        → BackIn levels at (node tag is) u
    of_node levels at tag is u s (Some i) low sealed free laid inside =
        of_sealed levels at (node tag is) u (back levels i (node tag is) u low sealed laid)
    of_node levels at tag is u s None low sealed free laid inside =
        let b = inside sealed.0 sealed.2 free in
        subst (BackIn levels at (node tag is)) (sym sealed.1)
        (record { filled = ap (node tag) b.filled; right = b.right })

    of_item : (levels at : ℕ) (name : List ℕ) (t u : Tree) (is js : Items)
        → BackIn levels (at + (2 + length name)) t u
        → Back levels (at + (2 + length name) + length (value_bytes u)) is js
        → Back levels at (item name t is) (item name u js)
    of_item levels at name t u is js first others =
        let p = at + (2 + length name) in
        let q = p + length (value_bytes u) in
        record {
          filled = ap (λ (x : Tree). item name x (opened_items value q js)) first.filled
              ∙ ap (item name t) others.filled;
          right = right_append (founds_in levels p u) (founds levels q js) first.right others.right;
        }

    mutual
      back_in : (levels : ℕ) (s : Station) (at : ℕ) (t u : Tree) → levels ≤ 99 → CoveredIn S rows s t u
          → IsFreeIn rows s t → IsValue (IsItems levels) t → BackIn levels at t u
      back_in levels s at (leaf tag bytes) u low sealed free laid =
          of_leaf levels at tag bytes u (rule_of s) low sealed free laid
      back_in levels s at (node tag is) u low sealed free laid =
          of_node levels at tag is u s (rule_of s) low sealed free laid
          (λ js p q. at_levels levels (at + 4) is js low (node_laid (IsItems levels) (layout_of tag) tag is laid)
          (λ l h e. back_items l s (at + 4) is js h p q e))

      pub back_items : (levels : ℕ) (s : Station) (at : ℕ) (is js : Items) → levels ≤ 99 → AreCovered S rows s is js
          → AreFree rows s is → AreElements (IsItems levels) is → Back levels at is js
      back_items levels s at no_items js low sealed free laid =
          subst (Back levels at no_items) (sym sealed) (record { filled = refl; right = tt })
      back_items levels s at (item name t is) js low sealed free laid =
          let p = at + (2 + length name) in
          subst (Back levels at (item name t is)) (sym sealed.2)
          (of_item levels at name t sealed.0 is sealed.1
          (back_in levels (station rows s (entry name t)) p t sealed.0 low sealed.3 free.0 laid.1)
          (back_items levels s (p + length (value_bytes sealed.0)) is sealed.1 low sealed.4 free.1 laid.2))
