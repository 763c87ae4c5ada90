-- The names of a key's fields, by the first elements and by the others.
use Rattle.std.proofs.Common.{◌≡◌, ◌∙◌, List, ℕ, Bool, true, false, cond, bytes_eq, ap, sym, refl}
use Rattle.std.specs.Prelude.{codes}
use Rattle.bson_tree.specs.Tree.{Tree, Items, item, no_items}
use Rattle.bson_codec.specs.Borrowed.{Elem}
use Rattle.data_key.specs.declared.elements.KeyElements.{KeyElements}
use Rattle.bson_codec.specs.Standings.{Standing, field_seen, standing, stands_behind, stands_last, stands_too}
use Rattle.bson_codec.proofs.Standings.{combined, combined_absent, combined_stands_last}

-- how the names stand among the elements before, with those that are left, is how they stand in the whole
pub record Together (found : KeyElements) (left whole : Items) : Type 0 where
  pub id : combined (field_seen found.id) (standing (codes "_id") left) ≡ standing (codes "_id") whole
  pub names : combined (field_seen found.names) (standing (codes "keyAltNames") left)
      ≡ standing (codes "keyAltNames") whole
  pub material : combined (field_seen found.material) (standing (codes "keyMaterial") left)
      ≡ standing (codes "keyMaterial") whole
  pub master_key : combined (field_seen found.master_key) (standing (codes "masterKey") left)
      ≡ standing (codes "masterKey") whole

by_test : (b : Bool) (s : Standing) (t : Tree) (r : Standing)
    → combined (cond b (stands_last s t) s) r ≡ combined s (cond b (stands_too t r) r)
by_test true s t r = combined_stands_last s t r
by_test false s t r = refl

-- one more element goes from what is left to those before
pub behind : (word : List ℕ) (s now : Standing) (e : Elem) (left rest : Items) (whole : Standing)
    → now ≡ stands_behind word s e → left ≡ item e.name e.tree rest → combined s (standing word left) ≡ whole
    → combined now (standing word rest) ≡ whole
unfolding standing
behind word s now e left rest whole is step before =
    ap (λ n. combined n (standing word rest)) is
    ∙ (by_test (bytes_eq e.name word) s e.tree (standing word rest)
    ∙ (ap (λ i. combined s (standing word i)) (sym step) ∙ before))

-- where none is left, the name stands in the whole as among those before
pub whole_seen : (word : List ℕ) (s : Standing) (left : Items) (whole : Standing) → left ≡ no_items
    → combined s (standing word left) ≡ whole → s ≡ whole
unfolding standing
whole_seen word s left whole none before =
    sym (combined_absent s) ∙ (ap (λ i. combined s (standing word i)) (sym none) ∙ before)
