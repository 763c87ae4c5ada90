-- How many bytes of a document payloads of right lengths take at least.
use Rattle.std.proofs.Common.{◌≡◌, ℕ, ◌+◌, ◌-◌, ◌*◌, ◌%◌, ◌<◌, ◌≤◌, ◌==◌, ◌&&◌, Bool, true, false, nat_lt, Some, None}
use Rattle.std.proofs.Common.{List, [], ◌∷◌, length, drop, arith, refl, length-append}
use Rattle.std.proofs.lemmas.Bool.Decides.{nat_tests}
use Rattle.std.proofs.lemmas.List.{length-drop}
use Rattle.std.specs.Prelude.{if◌then◌else◌}
use Rattle.bson_tree.specs.Tree.{Tree, leaf, node, Items, no_items, item}
use Rattle.bson_tree.specs.Spelling.{value_bytes, items_bytes}
use Rattle.bson_tree.proofs.Sizes.{element_size, framed_size}
use Rattle.encrypt_schema.specs.declared.command.reason.Reason.TheVariants as reasons
use Rattle.doc_rewrite.specs.Founds.{founds, founds_in, is_sealed, place_of}
use Rattle.doc_rewrite.specs.Opened.{first_wrong, misshapen}
use Rattle.doc_rewrite.specs.Opening.{spared}
use Rattle.doc_rewrite.proofs.OneLeaf.{right_one}
use Rattle.doc_rewrite.proofs.Walks.{neither_wrong}

over : (n : ℕ) (a b : Bool) → nat_lt 66 n ≡ a → (if a && b then None else Some reasons.PayloadShape) ≡ None → 66 < n
over n true b p e = grind (arith, nat_tests)
over n false b p e = absurd cc

held_leaf : (levels at tag : ℕ) (bytes : List ℕ) (b : Bool) → is_sealed tag bytes ≡ b
    → first_wrong misshapen (if b then place_of levels at (leaf tag bytes) ∷ [] else []) ≡ None
    → spared * length (if b then place_of levels at (leaf tag bytes) ∷ [] else []) ≤ length bytes
held_leaf levels at tag bytes true is e =
    let n = length (drop 5 bytes) in
    let more : 66 < n =
    over n (nat_lt 66 n) ((n - 66) % 16 == 0) refl (right_one misshapen (place_of levels at (leaf tag bytes)) e) in
    omega (arith, more, length-drop 5 bytes)
held_leaf levels at tag bytes false is e = omega arith

mutual
  pub held_in : (levels at : ℕ) (t : Tree) → first_wrong misshapen (founds_in levels at t) ≡ None
      → spared * length (founds_in levels at t) ≤ length (value_bytes t)
  held_in levels at (leaf tag bytes) e = held_leaf levels at tag bytes (is_sealed tag bytes) refl e
  held_in levels at (node tag is) e = omega (arith, held (levels - 1) (at + 4) is e, framed_size (items_bytes is))

  pub held : (levels at : ℕ) (is : Items) → first_wrong misshapen (founds levels at is) ≡ None
      → spared * length (founds levels at is) ≤ length (items_bytes is)
  held levels at no_items e = omega arith
  held levels at (item name t is) e =
      let p = at + (2 + length name) in
      let q = p + length (value_bytes t) in
      let parts = neither_wrong misshapen (founds_in levels p t) (founds levels q is) e in
      omega (
        arith,
        held_in levels p t parts.0,
        held levels q is parts.1,
        element_size name t is,
        length-append (founds_in levels p t) (founds levels q is),
      )
