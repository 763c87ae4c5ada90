-- Bytes of a value that are judged alone.
use Rattle.std.proofs.Common.{◌≡◌, ℕ, ◌≤◌, Bool, true, false, eqb, List, [], ◌++◌, length, drop, Option, Some, None}
use Rattle.std.proofs.Common.{Result, Ok, Err, refl, sym, ap, subst, ◌∙◌, arith}
use Rattle.std.specs.Prelude.{MatchBool}
use Rattle.std.proofs.lemmas.Bool.{eqb-true, eqb-false}
use Rattle.std.proofs.lemmas.List.{append-nil, nil_from_length, length-drop}
use Rattle.bson_tree.specs.Tree.{Tree, Items, no_items, item, count, tag_of}
use Rattle.bson_tree.specs.Spelling.{value_bytes, items_bytes}
use Rattle.bson_codec.specs.declared.fault.BsonFault.{BsonFault}
use Rattle.bson_codec.specs.declared.table.ValueLayout.{ValueLayout}
use Rattle.bson_codec.specs.Bytes.{AreBytes}
use Rattle.bson_codec.specs.Table.{layout_of}
use Rattle.bson_codec.specs.Layout.{HasLayout, IsItems}
use Rattle.bson_codec.specs.Reading.{value_at, inside_at, width_of}
use Rattle.bson_codec.specs.Borrowed.{SpellsWithin, SpellsDoc, doc_of}
use Rattle.bson_codec.proofs.Steps.{made, ok_is, refused}
use Rattle.bson_codec.proofs.Pieces.{Begins, begins_all}
use Rattle.bson_codec.proofs.Elements.{value_takes, laid_again}
use Rattle.bson_codec.proofs.Documents.{inside_reads}
use Rattle.bson_codec.proofs.Views.{doc_of_spelling}
use Rattle.bson_tree.proofs.Sizes.{framed_size, element_size}

-- a byte that is no type has no value
pub no_type : (levels tag : ℕ) (bs : List ℕ) → layout_of tag ≡ None → SpellsWithin levels tag bs → ⊥
no_type levels tag bs e s = subst (λ (o : Option ValueLayout). HasLayout (IsItems levels) o s.tree)
    (ap layout_of s.type ∙ e) s.laid

record Read (r : Result (Tree × ℕ) BsonFault) (n : ℕ) : Type 0 where
  tree : Tree
  is : r ≡ Ok (tree, n)

read_of : (r : Result (Tree × ℕ) BsonFault) (n : ℕ) → width_of r ≡ Ok n → Read r n
read_of (Ok x) n e = let width : x.1 ≡ n = ok_is x.1 n e in record {
  tree = x.0;
  is = ap (λ (m : ℕ). made (x.0, m)) width;
}
read_of (Err d) n e = absurd (refused d n e)

module _ (levels tag : ℕ) (layout : ValueLayout) (bs : List ℕ) (row : layout_of tag ≡ Some layout) where
  spelled_read : SpellsWithin levels tag bs → width_of (value_at (inside_at levels) tag layout 0 bs) ≡ Ok (length bs)
  spelled_read s =
      let row' : layout_of (tag_of s.tree) ≡ Some layout = ap layout_of s.type ∙ row in
      let laid : HasLayout (IsItems levels) (Some layout) s.tree =
      subst (λ (o : Option ValueLayout). HasLayout (IsItems levels) o s.tree) row' s.laid in
      let begins : Begins bs (value_bytes s.tree) (length bs) =
      subst (λ (x : List ℕ). Begins bs x (length bs)) s.parts (begins_all bs) in
      let read : value_at (inside_at levels) tag layout 0 bs ≡ Ok (s.tree, length bs) =
      subst (λ (k : ℕ). value_at (inside_at levels) k layout 0 bs ≡ Ok (s.tree, length bs)) s.type
      (laid_again (IsItems levels) (inside_at levels) (inside_reads levels) layout 0 bs s.tree
      (length bs) laid begins) in
      ap (λ (r : Result (Tree × ℕ) BsonFault). width_of r) read

  read_spelled : (n : ℕ) → AreBytes bs → width_of (value_at (inside_at levels) tag layout 0 bs) ≡ Ok n → n ≡ length bs
      → SpellsWithin levels tag bs
  read_spelled n fits e all =
      let r = read_of (value_at (inside_at levels) tag layout 0 bs) n e in
      let value = value_takes (IsItems levels) (inside_at levels) (inside_reads levels) tag layout 0 bs
      (r.tree, n) fits row r.is in
      let nothing : drop n bs ≡ [] = nil_from_length _ (omega (arith, length-drop n bs, all)) in
      record {
        tree = r.tree;
        laid = value.laid;
        type = value.type;
        parts = value.parts.parts ∙ ap (λ (x : List ℕ). value_bytes r.tree ++ x) nothing
            ∙ append-nil (value_bytes r.tree);
      }

  judged : (n : ℕ) (same : Bool) → eqb n (length bs) ≡ same → AreBytes bs
      → width_of (value_at (inside_at levels) tag layout 0 bs) ≡ Ok n
      → MatchBool same (SpellsWithin levels tag bs) (SpellsWithin levels tag bs → ⊥)
  judged n true t fits e = read_spelled n fits e (eqb-true _ _ t)
  judged n false t fits e = λ s. eqb-false _ _ t (ok_is n (length bs) (sym e ∙ spelled_read s))

  pub value_judged : (n : ℕ) → AreBytes bs → width_of (value_at (inside_at levels) tag layout 0 bs) ≡ Ok n
      → MatchBool (eqb n (length bs)) (SpellsWithin levels tag bs) (SpellsWithin levels tag bs → ⊥)
  value_judged n fits e = judged n (eqb n (length bs)) refl fits e

  pub value_refused : (d : BsonFault) → width_of (value_at (inside_at levels) tag layout 0 bs) ≡ Err d
      → SpellsWithin levels tag bs → ⊥
  value_refused d e s = refused d (length bs) (sym e ∙ spelled_read s)

-- ---- how many elements there are

count_le : (is : Items) → count is ≤ length (items_bytes is)
count_le no_items = omega arith
count_le (item name t is) = omega (arith, count_le is, element_size name t is)

pub few_items : (bs : List ℕ) → SpellsDoc bs → count (doc_of bs) ≤ length bs
few_items bs s =
    let same : doc_of bs ≡ s.tree = doc_of_spelling bs s.tree s.doc s.parts in
    let number : count (doc_of bs) ≡ count s.tree = ap count same in
    omega (arith, number, count_le s.tree, ap length s.parts, framed_size (items_bytes s.tree))
