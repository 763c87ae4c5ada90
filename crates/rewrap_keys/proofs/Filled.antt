-- The bytes of a document with new material.
use Rattle.std.proofs.Common.{◌≡◌, ◌∙◌, ℕ, ◌+◌, ◌≤◌, Bool, true, cond, List, [], ◌∷◌, ◌++◌, length, take, drop}
use Rattle.std.proofs.Common.{sym, ap, arith, append_assoc, length-take-le}
use Rattle.std.specs.Prelude.{bytes_eq, codes}
use Rattle.std.specs.Int.{w32, to_le_bytes}
use Rattle.std.proofs.lemmas.List.{append-nil}
use Rattle.std.proofs.Math.Seq.{take-add}
use Rattle.bson_tree.specs.Tree.{Tree, Items, no_items, item, tag_of}
use Rattle.bson_tree.specs.Spelling.{items_bytes, value_bytes, framed}
use Rattle.data_key.specs.Written.{binary}
use Rattle.rewrap_keys.specs.Fields.{dated, new_value, with_material}

-- a material of 160 bytes as a binary of subtype 00
pub material_bytes : (m : List ℕ) → length m ≡ 160
    → value_bytes (binary 0 m) ≡ (160 ∷ 0 ∷ 0 ∷ 0 ∷ 0 ∷ []) ++ m
material_bytes m long = ap (λ (n : ℕ). to_le_bytes w32 n ++ (0 ∷ m)) long

-- an element is what stands before its value, and its value
pub element_put : (name front mid out : List ℕ) (t : Tree) → mid ≡ front ++ (tag_of t ∷ (name ++ 0 ∷ []))
    → out ≡ mid ++ value_bytes t
    → out ≡ front ++ items_bytes (item name t no_items)
element_put name front mid out t before behind =
    behind ∙ ap (λ (x : List ℕ). x ++ value_bytes t) before ∙ simp (append_assoc, append-nil)

-- the field of the material
pub material_put : (m name front mid out : List ℕ) (now : ℕ) (t : Tree) → bytes_eq name (codes "keyMaterial") ≡ true
    → mid ≡ front ++ (5 ∷ (name ++ 0 ∷ [])) → out ≡ mid ++ value_bytes (binary 0 m)
    → out ≡ front ++ items_bytes (item name (new_value m now name t) no_items)
material_put m name front mid out now t is before behind =
    element_put name front mid out (binary 0 m) before behind
    ∙ ap (λ (b : Bool). front ++ items_bytes (item name (cond b (binary 0 m) (dated now name t)) no_items)) (sym is)

-- while the fields are written from `at` on: what is written, and what the others will be, are all of them
pub record Filling (m : List ℕ) (now at end : ℕ) (old out : List ℕ) (all left : Items) : Type 0 where
  pub size : length out ≡ length old
  pub ends : end + length (items_bytes (with_material m now left)) ≡ at + length (items_bytes (with_material m now all))
  pub written : take end out ++ items_bytes (with_material m now left)
      ≡ take at old ++ items_bytes (with_material m now all)

-- a document whose fields were written behind four bytes, and whose length was put in last
pub closed_document : (at end behind : ℕ) (old out new elements : List ℕ) → at + 4 ≤ length old
    → take end out ≡ take (at + 4) old ++ elements
    → ((front four inside : List ℕ) → length front ≡ at → length four ≡ 4 → take end out ≡ (front ++ four) ++ inside
    → take behind new ≡ front ++ framed inside)
    → take behind new ≡ take at old ++ framed elements
closed_document at end behind old out new elements room is closed =
    closed (take at old) (take 4 (drop at old)) elements (length-take-le at old (omega arith))
    (length-take-le 4 (drop at old) (omega (arith, Rattle.std.proofs.lemmas.List.length-drop at old)))
    (is ∙ ap (λ (x : List ℕ). x ++ elements) (take-add at 4 old))
