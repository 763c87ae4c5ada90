-- The way down to an offset leads to the value that begins there.
use Rattle.std.proofs.Common.{◌≡◌, ℕ, zero, suc, ◌+◌, ◌<◌, ◌≤◌, Bool, true, false, cond, eqb, List, [], ◌∷◌, length}
use Rattle.std.proofs.Common.{Option, Some, None, refl, sym, ap, subst, ◌∙◌, inl, inr, ◌⊎◌, arith}
use Rattle.std.specs.Prelude.{option_map, ◌||◌, ◌&&◌, nat_lt}
use Rattle.std.proofs.lemmas.Bool.{eqb-true, ne_eqb}
use Rattle.std.proofs.lemmas.Bool.Decides.{nat_tests}
use Rattle.bson_tree.specs.Tree.{Tree, Items, leaf, node, no_items, item}
use Rattle.bson_tree.specs.Spelling.{value_bytes, items_bytes}
use Rattle.bson_tree.specs.Places.{start_in, start_from}
use Rattle.bson_tree.proofs.Sizes.{framed_size}
use Rattle.bson_codec.proofs.Offsets.{within_from}
use Rattle.bson_codec.proofs.Spots.{same}
use Rattle.bson_codec.specs.Borrowed.{has_inside, holds}
use Rattle.bson_codec.proofs.Ways.{spot_in, spot_from}

-- ---- choices

pub some_is : {X : Type 0} (m n : X) → Some m ≡ Some n → m ≡ n
some_is m n e = cc

-- which of two was chosen
chosen : {X : Type 0} (b : Bool) (here there goal : X) → cond b here there ≡ goal
    → ((b ≡ true) × (here ≡ goal)) ⊎ ((b ≡ false) × (there ≡ goal))
chosen true here there goal e = inl (refl, e)
chosen false here there goal e = inr (refl, e)

-- ---- which element holds an offset

holds_first : (at start : ℕ) (inner : Bool) (size : ℕ) → start ≡ at
    → (eqb start at || (inner && (nat_lt start at && nat_lt at (start + size)))) ≡ true
holds_first at start inner size e = grind (arith, nat_tests)

holds_between : (at start size : ℕ) → start < at → at < start + size
    → (eqb start at || (true && (nat_lt start at && nat_lt at (start + size)))) ≡ true
holds_between at start size from to = grind (arith, nat_tests)

holds_not : (at start : ℕ) (inner : Bool) (size : ℕ) → start < at → start + size ≤ at
    → (eqb start at || (inner && (nat_lt start at && nat_lt at (start + size)))) ≡ false
holds_not at start true size from to = grind (arith, nat_tests)
holds_not at start false size from to = grind (arith, nat_tests)

-- an element holds the offsets at which the values of its value begin
holds_inside : (at start : ℕ) (name : List ℕ) (t : Tree) (place : List ℕ) → start_in place start t ≡ Some at
    → holds at (record { name = name; tree = t; start = start }) ≡ true
holds_inside at start name (leaf tag bytes) [] e = holds_first at start false (length bytes) (some_is start at e)
holds_inside at start name (node tag is) [] e =
    holds_first at start true (length (value_bytes (node tag is))) (some_is start at e)
holds_inside at start name (leaf tag bytes) (i ∷ place) e = absurd cc
holds_inside at start name (node tag is) (i ∷ place) e =
    let inside = within_from i place (start + 4) is at e in
    holds_between at start (length (value_bytes (node tag is))) (omega (arith, inside.from))
    (omega (arith, inside.to, framed_size (items_bytes is)))

-- no element holds the offsets at which values of later ones begin
holds_no_later : (at start : ℕ) (name : List ℕ) (t : Tree) (is : Items) (i : ℕ) (place : List ℕ)
    → start_from i place (start + length (value_bytes t)) is ≡ Some at
    → holds at (record { name = name; tree = t; start = start }) ≡ false
holds_no_later at start name t is i place e =
    let behind = within_from i place (start + length (value_bytes t)) is at e in
    holds_not at start (has_inside t) (length (value_bytes t)) (omega (arith, behind.from)) (omega (arith, behind.from))

-- ---- the way down leads to each value

pub if_true : {X : Type 0} (b : Bool) (here there goal : X) → b ≡ true → here ≡ goal → cond b here there ≡ goal
if_true true here there goal b-is e = e
if_true false here there goal b-is e = absurd cc

pub if_false : {X : Type 0} (b : Bool) (here there goal : X) → b ≡ false → there ≡ goal → cond b here there ≡ goal
if_false true here there goal b-is e = absurd cc
if_false false here there goal b-is e = e

mutual
  found_in : (place : List ℕ) (at start : ℕ) (t : Tree) → start_in place start t ≡ Some at
      → spot_in at start t ≡ Some place
  found_in [] at start (leaf tag bytes) e =
      if_true (eqb start at) _ _ _ (ap (λ (n : ℕ). eqb start n) (sym (some_is start at e)) ∙ same start) refl
  found_in [] at start (node tag is) e =
      if_true (eqb start at) _ _ _ (ap (λ (n : ℕ). eqb start n) (sym (some_is start at e)) ∙ same start) refl
  found_in (i ∷ place) at start (leaf tag bytes) e = absurd cc
  found_in (i ∷ place) at start (node tag is) e =
      let inside = within_from i place (start + 4) is at e in
      if_false (eqb start at) _ _ _ (ne_eqb start at (λ same. omega (arith, inside.from, same)))
      (found_from i place at 0 (start + 4) is e ∙ ap (λ (n : ℕ). Some (n ∷ place)) (omega arith))

  pub found_from : (k : ℕ) (place : List ℕ) (at i start : ℕ) (is : Items) → start_from k place start is ≡ Some at
      → spot_from at i start is ≡ Some ((i + k) ∷ place)
  found_from k place at i start no_items e = absurd cc
  found_from zero place at i start (item name t is) e =
      let inner = found_in place at (start + (2 + length name)) t e in
      if_true (holds at (record { name = name; tree = t; start = start + (2 + length name) })) _ _ _
      (holds_inside at (start + (2 + length name)) name t place e)
      (ap (option_map (λ (p : List ℕ). i ∷ p)) inner ∙ ap (λ (n : ℕ). Some (n ∷ place)) (omega arith))
  found_from (suc k) place at i start (item name t is) e =
      if_false (holds at (record { name = name; tree = t; start = start + (2 + length name) })) _ _ _
      (holds_no_later at (start + (2 + length name)) name t is k place e)
      (found_from k place at (i + 1) (start + (2 + length name) + length (value_bytes t)) is e
      ∙ ap (λ (n : ℕ). Some (n ∷ place)) (omega arith))

-- ---- and to nothing else

-- a place among elements from number i on, at which a value begins
pub record Led (at i start : ℕ) (is : Items) (place : List ℕ) : Type 0 where
  pub number : ℕ
  pub inner : List ℕ
  pub parts : place ≡ (i + number) ∷ inner
  pub begins : start_from number inner start is ≡ Some at

record Inner (i : ℕ) (inside : Option (List ℕ)) (place : List ℕ) : Type 0 where
  inner : List ℕ
  is : inside ≡ Some inner
  parts : i ∷ inner ≡ place

inner_of : (i : ℕ) (inside : Option (List ℕ)) (place : List ℕ) → option_map (λ (p : List ℕ). i ∷ p) inside ≡ Some place
    → Inner i inside place
inner_of i None place e = absurd cc
inner_of i (Some inner) place e = record { inner = inner; is = refl; parts = some_is (i ∷ inner) place e }

mutual
  begins_in : (place : List ℕ) (at start : ℕ) (t : Tree) → spot_in at start t ≡ Some place
      → start_in place start t ≡ Some at
  begins_in place at start (leaf tag bytes) e =
      elim (chosen (eqb start at) (Some []) None (Some place) e) [
        | inl h ↦ subst (λ (p : List ℕ). start_in p start (leaf tag bytes) ≡ Some at) (some_is [] place h.1)
            (ap (λ (n : ℕ). Some n) (eqb-true start at h.0))
        | inr h ↦ absurd (let none = h.1 in cc)
      ]
  begins_in place at start (node tag is) e =
      elim (chosen (eqb start at) (Some []) (spot_from at 0 (start + 4) is) (Some place) e) [
        | inl h ↦ subst (λ (p : List ℕ). start_in p start (node tag is) ≡ Some at) (some_is [] place h.1)
            (ap (λ (n : ℕ). Some n) (eqb-true start at h.0))
        | inr h ↦
            let led = begins_from place at 0 (start + 4) is h.1 in
            let parts : led.number ∷ led.inner ≡ place = ap (λ (n : ℕ). n ∷ led.inner) (omega arith) ∙ sym led.parts in
            subst (λ (p : List ℕ). start_in p start (node tag is) ≡ Some at) parts led.begins
      ]

  pub begins_from : (place : List ℕ) (at i start : ℕ) (is : Items) → spot_from at i start is ≡ Some place
      → Led at i start is place
  begins_from place at i start no_items e = absurd cc
  begins_from place at i start (item name t is) e =
      elim (chosen (holds at (record { name = name; tree = t; start = start + (2 + length name) }))
      (option_map (λ (p : List ℕ). i ∷ p) (spot_in at (start + (2 + length name)) t))
      (spot_from at (i + 1) (start + (2 + length name) + length (value_bytes t)) is) (Some place) e) [
        | inl h ↦
            let inside = inner_of i (spot_in at (start + (2 + length name)) t) place h.1 in
            record {
              number = 0;
              inner = inside.inner;
              parts = sym inside.parts ∙ ap (λ (n : ℕ). n ∷ inside.inner) (omega arith);
              begins = begins_in inside.inner at (start + (2 + length name)) t inside.is;
            }
        | inr h ↦
            let led = begins_from place at (i + 1) (start + (2 + length name) + length (value_bytes t)) is h.1 in
            record {
              number = suc led.number;
              inner = led.inner;
              parts = led.parts ∙ ap (λ (n : ℕ). n ∷ led.inner) (omega arith);
              begins = led.begins;
            }
      ]
