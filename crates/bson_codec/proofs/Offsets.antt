-- Values at distinct places begin at distinct offsets.
use Rattle.std.proofs.Common.{◌≡◌, ℕ, zero, suc, ◌+◌, ◌≤◌, List, [], ◌∷◌, length, Some, refl, ap, arith}
use Rattle.bson_tree.specs.Tree.{Tree, Items, leaf, node, no_items, item}
use Rattle.bson_tree.specs.Spelling.{value_bytes, items_bytes}
use Rattle.bson_tree.specs.Places.{start_in, start_from, start_of}
use Rattle.bson_tree.proofs.Sizes.{framed_size, element_size}

some_is : (m n : ℕ) → Some m ≡ Some n → m ≡ n
some_is m n e = cc

-- an offset within a value that begins at `at` and has so many bytes
pub record Within (at size offset : ℕ) : Type 0 where
  pub from : at ≤ offset
  pub to : offset ≤ at + size

-- an offset of a value among elements that begin at `at` and have so many bytes
pub record Among (at size offset : ℕ) : Type 0 where
  pub from : at + 2 ≤ offset
  pub to : offset ≤ at + size

mutual
  pub within_in : (place : List ℕ) (at : ℕ) (t : Tree) (offset : ℕ) → start_in place at t ≡ Some offset
      → Within at (length (value_bytes t)) offset
  within_in [] at (leaf tag bytes) offset e = let is =
      some_is at offset e in record { from = omega arith; to = omega arith }
  within_in [] at (node tag is) offset e = let same =
      some_is at offset e in record { from = omega arith; to = omega arith }
  within_in (i ∷ place) at (leaf tag bytes) offset e = absurd cc
  within_in (i ∷ place) at (node tag is) offset e =
      let inside = within_from i place (at + 4) is offset e in
      record { from = omega (arith, inside.from); to = omega (arith, inside.to, framed_size (items_bytes is)) }

  pub within_from : (i : ℕ) (place : List ℕ) (at : ℕ) (is : Items) (offset : ℕ) → start_from i place at is ≡ Some offset
      → Among at (length (items_bytes is)) offset
  within_from i place at no_items offset e = absurd cc
  within_from zero place at (item name t is) offset e =
      let inside = within_in place (at + (2 + length name)) t offset e in
      record { from = omega (arith, inside.from); to = omega (arith, inside.to, element_size name t is) }
  within_from (suc i) place at (item name t is) offset e =
      let behind = within_from i place (at + (2 + length name) + length (value_bytes t)) is offset e in
      record { from = omega (arith, behind.from); to = omega (arith, behind.to, element_size name t is) }

-- a place with its first step one further
abbrev bump : List ℕ → List ℕ
bump [] = []
bump (i ∷ place) = suc i ∷ place

mutual
  same_in : (place other : List ℕ) (at : ℕ) (t : Tree) (offset : ℕ) → start_in place at t ≡ Some offset
      → start_in other at t ≡ Some offset → place ≡ other
  same_in [] [] at t offset e f = refl
  same_in [] (j ∷ other) at (leaf tag bytes) offset e f = absurd cc
  same_in [] (j ∷ other) at (node tag is) offset e f =
      absurd (omega (arith, some_is at offset e, (within_from j other (at + 4) is offset f).from))
  same_in (i ∷ place) [] at (leaf tag bytes) offset e f = absurd cc
  same_in (i ∷ place) [] at (node tag is) offset e f =
      absurd (omega (arith, some_is at offset f, (within_from i place (at + 4) is offset e).from))
  same_in (i ∷ place) (j ∷ other) at (leaf tag bytes) offset e f = absurd cc
  same_in (i ∷ place) (j ∷ other) at (node tag is) offset e f = same_from i place j other (at + 4) is offset e f

  same_from : (i : ℕ) (place : List ℕ) (j : ℕ) (other : List ℕ) (at : ℕ) (is : Items) (offset : ℕ)
      → start_from i place at is ≡ Some offset → start_from j other at is ≡ Some offset
      → i ∷ place ≡ j ∷ other
  same_from i place j other at no_items offset e f = absurd cc
  same_from zero place zero other at (item name t is) offset e f =
      ap (λ (p : List ℕ). 0 ∷ p) (same_in place other (at + (2 + length name)) t offset e f)
  same_from zero place (suc j) other at (item name t is) offset e f =
      let v : ℕ = at + (2 + length name) in
      let here = within_in place v t offset e in
      let there = within_from j other (v + length (value_bytes t)) is offset f in
      absurd (omega (arith, here.to, there.from))
  same_from (suc i) place zero other at (item name t is) offset e f =
      let v : ℕ = at + (2 + length name) in
      let here = within_in other v t offset f in
      let there = within_from i place (v + length (value_bytes t)) is offset e in
      absurd (omega (arith, here.to, there.from))
  same_from (suc i) place (suc j) other at (item name t is) offset e f =
      ap bump (same_from i place j other (at + (2 + length name) + length (value_bytes t)) is offset e f)

pub same_place : (is : Items) (place other : List ℕ) (at : ℕ) → start_of place is ≡ Some at
    → start_of other is ≡ Some at → place ≡ other
same_place is [] other at e f = absurd cc
same_place is (i ∷ place) [] at e f = absurd cc
same_place is (i ∷ place) (j ∷ other) at e f = same_from i place j other 4 is at e f
