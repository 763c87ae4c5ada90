-- What the elements of a `Vec` of named values are, as a list of named values.
use Rattle.std.proofs.Common.{◌≡◌, ℕ, ◌+◌, ◌<◌, ◌≤◌, zero, suc, List, [], ◌∷◌, ◌++◌, length, get_or, refl, sym, ap}
use Rattle.std.proofs.Common.{arith, add-one}
use Rattle.std.specs.Prelude.{Some, None}
use Rattle.bson_tree.specs.declared.tree.Value.{Value}
use Rattle.bson_tree.specs.Tree.{no_items, item, count, join, after, name_at, nth}
use Rattle.bson_tree.specs.View.{tree, items_of}

-- the list has as many children as the `Vec` has elements
pub count_items : (pairs : List (List ℕ × Value)) → count (items_of pairs) ≡ length pairs
count_items [] = refl
count_items (pair ∷ pairs) = omega (arith, count_items pairs)

-- a pushed element is the last child
pub push_items : (pairs : List (List ℕ × Value)) (name : List ℕ) (v : Value)
    → items_of (pairs ++ (name, v) ∷ []) ≡ join (items_of pairs) (item name (tree v) no_items)
push_items [] name v = refl
push_items (pair ∷ pairs) name v = ap (item pair.0 (tree pair.1)) (push_items pairs name v)

-- the children from number i on begin with element i
pub after_at : (i : ℕ) (pairs : List (List ℕ × Value)) (p : List ℕ × Value) → i < length pairs → p ≡ get_or pairs i p
    → after i (items_of pairs) ≡ item p.0 (tree p.1) (after (i + 1) (items_of pairs))
after_at i [] p below e = absurd (omega arith)
after_at zero (pair ∷ pairs) p below e = ap (λ (q : List ℕ × Value). item q.0 (tree q.1) (items_of pairs)) (sym e)
after_at (suc i) (pair ∷ pairs) p below e =
    let here : after i (items_of pairs) ≡ item p.0 (tree p.1) (after (i + 1) (items_of pairs)) =
    after_at i pairs p (omega arith) e in
    rw add-one (rw add-one at here)

-- the value and the name of child number i are those of element i
pub nth_at : (i : ℕ) (pairs : List (List ℕ × Value)) (p : List ℕ × Value) → i < length pairs → p ≡ get_or pairs i p
    → nth i (items_of pairs) ≡ Some (tree p.1)
nth_at i [] p below e = absurd (omega arith)
nth_at zero (pair ∷ pairs) p below e = ap (λ (q : List ℕ × Value). Some (tree q.1)) (sym e)
nth_at (suc i) (pair ∷ pairs) p below e = nth_at i pairs p (omega arith) e

pub name_is : (i : ℕ) (pairs : List (List ℕ × Value)) (p : List ℕ × Value) → i < length pairs → p ≡ get_or pairs i p
    → name_at i (items_of pairs) ≡ Some p.0
name_is i [] p below e = absurd (omega arith)
name_is zero (pair ∷ pairs) p below e = ap (λ (q : List ℕ × Value). Some q.0) (sym e)
name_is (suc i) (pair ∷ pairs) p below e = name_is i pairs p (omega arith) e

-- past the last element there is no child
pub nth_past : (i : ℕ) (pairs : List (List ℕ × Value)) → length pairs ≤ i → nth i (items_of pairs) ≡ None
nth_past zero [] past = refl
nth_past (suc i) [] past = refl
nth_past zero (pair ∷ pairs) past = absurd (omega arith)
nth_past (suc i) (pair ∷ pairs) past = nth_past i pairs (omega arith)

pub name_past : (i : ℕ) (pairs : List (List ℕ × Value)) → length pairs ≤ i → name_at i (items_of pairs) ≡ None
name_past zero [] past = refl
name_past (suc i) [] past = refl
name_past zero (pair ∷ pairs) past = absurd (omega arith)
name_past (suc i) (pair ∷ pairs) past = name_past i pairs (omega arith)

-- an empty list has no child
pub nth_none : (i : ℕ) → nth i no_items ≡ None
nth_none zero = refl
nth_none (suc i) = refl

-- children by their numbers
pub ruleset children = (count_items, push_items, after_at, nth_at, name_is, nth_past, name_past)
