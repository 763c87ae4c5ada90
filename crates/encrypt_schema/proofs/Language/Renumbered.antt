-- A collection that is forgotten, in whose place the last one stands: the list, and the numbers of names.
use Rattle.std.proofs.Common.{◌≡◌, ◌∙◌, ℕ, zero, suc, ◌+◌, ◌-◌, ◌<◌, ◌≤◌, Bool, true, false, cond, List, [], ◌∷◌}
use Rattle.std.proofs.Common.{length, take, set, get_or, swap_remove, Option, Some, None, bytes_eq, refl, sym, ap, subst}
use Rattle.std.proofs.Common.{Vec, Global, nat_cmp, arith}
use Rattle.std.proofs.lemmas.Bool.{false≢true}
use Rattle.std.specs.BTreeMap.{BTreeMap, UpdatesBy}
use Rattle.std.specs.Cmp.Lexicographic.{bytes_decides, slice_cmp}
use Rattle.std.specs.Prelude.{unwrap_or}
use Rattle.bson_tree.specs.NameNumbers.{number_of_name}
use Rattle.bson_tree.proofs.NameNumbers.{updates_numbers}
use Rattle.encrypt_schema.specs.Language.Collection.{Collection, collection_of, place_from}
use Rattle.encrypt_schema.specs.Language.Names.{named}
use Rattle.encrypt_schema.specs.Language.Putting.{AreDistinct, before_last, forgotten, last_first, last_of, renumbered}
use Rattle.encrypt_schema.proofs.Language.Forgotten.{apart_last, before_placed, first_found}
use Rattle.encrypt_schema.proofs.Language.Numbered.{no_place}
use Rattle.encrypt_schema.proofs.Language.Placed.{bounds, named_one, named_self}

-- ---- the list

-- the item at the end
last_item : (c : Collection) (cs : List Collection) (x : Collection) → get_or (c ∷ cs) (length cs) x ≡ last_of c cs
last_item c [] x = refl
last_item c (d ∷ ds) x = last_item d ds x

-- the items before it
before_item : (c : Collection) (cs : List Collection) → take (length cs) (c ∷ cs) ≡ before_last c cs
before_item c [] = refl
before_item c (d ∷ ds) = ap (λ (es : List Collection). c ∷ es) (before_item d ds)

-- what is left, by the number of the last one
swapped : (cs : List Collection) (i n : ℕ) (x : Collection) → length cs - 1 ≡ n
    → swap_remove cs i x ≡ take n (set cs i (get_or cs n x))
swapped cs i n x e = ap (λ (n : ℕ). take n (set cs i (get_or cs n x))) e

first_removed : (c : Collection) (cs : List Collection) (x : Collection)
    → swap_remove (c ∷ cs) 0 x ≡ last_first cs
first_removed c [] x = refl
first_removed c (d ∷ ds) x =
    let last : length (c ∷ d ∷ ds) - 1 ≡ suc (length ds) = omega arith in
    swapped (c ∷ d ∷ ds) 0 (suc (length ds)) x last
    ∙ ap (λ (l : Collection). l ∷ take (length ds) (d ∷ ds)) (last_item d ds x)
    ∙ ap (λ (es : List Collection). last_of d ds ∷ es) (before_item d ds)

next_removed : (c : Collection) (cs : List Collection) (i : ℕ) (x : Collection) → i < length cs
    → swap_remove (c ∷ cs) (suc i) x ≡ c ∷ swap_remove cs i x
next_removed c [] i x low = absurd (omega (arith, low))
next_removed c (d ∷ ds) i x low =
    let last : length (c ∷ d ∷ ds) - 1 ≡ suc (length ds) = omega arith in
    let before : length (d ∷ ds) - 1 ≡ length ds = omega arith in
    swapped (c ∷ d ∷ ds) (suc i) (suc (length ds)) x last
    ∙ sym (ap (λ (es : List Collection). c ∷ es) (swapped (d ∷ ds) i (length ds) x before))

removed_by : (b : Bool) (m i : ℕ) (c x : Collection) (cs : List Collection) (rest : List Collection) (o : Option ℕ)
    → cond b (Some m) o ≡ Some (m + i) → ((k : ℕ) → o ≡ Some k → (m + 1 ≤ k) × (k < m + 1 + length cs))
    → ((j : ℕ) → o ≡ Some (m + 1 + j) → swap_remove cs j x ≡ rest)
    → swap_remove (c ∷ cs) i x ≡ cond b (last_first cs) (c ∷ rest)
removed_by true m zero c x cs rest o e past more = first_removed c cs x
removed_by true m (suc i) c x cs rest o e past more =
    let same : m ≡ m + suc i = ap (λ (x : Option ℕ). unwrap_or x 0) e in absurd (omega (arith, same))
removed_by false m zero c x cs rest o e past more = absurd (omega (arith, (past (m + 0) e).0))
removed_by false m (suc i) c x cs rest o e past more =
    let next : m + suc i ≡ m + 1 + i = omega arith in
    let low : i < length cs = omega (arith, (past (m + suc i) e).1) in
    next_removed c cs i x low ∙ ap (λ (ds : List Collection). c ∷ ds) (more i (e ∙ ap Some next))

removed_from : (m i : ℕ) (name : List ℕ) (cs : List Collection) (x : Collection) → place_from m name cs ≡ Some (m + i)
    → swap_remove cs i x ≡ forgotten name cs
removed_from m i name [] x e = absurd cc
removed_from m i name (c ∷ cs) x e =
    removed_by (named c.name name) m i c x cs (forgotten name cs) (place_from (m + 1) name cs) e
    (λ k. bounds (m + 1) name cs k) (λ j. removed_from (m + 1) j name cs x)

pub removed_at : (i : ℕ) (name : List ℕ) (cs : List Collection) (x : Collection) → place_from 0 name cs ≡ Some i
    → swap_remove cs i x ≡ forgotten name cs
removed_at i name cs x e =
    let from : i ≡ 0 + i = omega arith in removed_from 0 i name cs x (e ∙ ap Some from)

-- ---- the numbers

named_is : (a b : List ℕ) → bytes_eq a b ≡ true → named a b ≡ true
unfolding named
named_is a b e = e

named_not : (a b : List ℕ) → bytes_eq a b ≡ false → named a b ≡ false
unfolding named
named_not a b e = e

named_as : (a b q : List ℕ) → named a b ≡ true → bytes_eq b q ≡ false → named a q ≡ false
named_as a b q is other = subst (λ (n : List ℕ). named n q ≡ false) (sym (named_one a b is)) (named_not b q other)

-- that of the last one's name is there
last_numbered : (m k : ℕ) (c : Collection) (cs : List Collection) (q : List ℕ) → named (last_of c cs).name q ≡ true
    → renumbered k (place_from m q (c ∷ cs)) ≡ Some k
last_numbered m k c [] q is = ap (λ (t : Bool). renumbered k (cond t (Some m) None)) is
last_numbered m k c (d ∷ ds) q is = by (named c.name q) (last_numbered (m + 1) k d ds q is)
  where
    by : (b : Bool) → renumbered k (place_from (m + 1) q (d ∷ ds)) ≡ Some k
        → renumbered k (cond b (Some m) (place_from (m + 1) q (d ∷ ds))) ≡ Some k
    by true more = refl
    by false more = more

-- the first one is forgotten
first_moved : (m : ℕ) (c : Collection) (cs : List Collection) (q : List ℕ) → named c.name q ≡ false
    → place_from m q (last_first cs) ≡ cond (named (last_of c cs).name q) (Some m) (place_from m q (c ∷ cs))
first_moved m c [] q other =
    sym (ap (λ (t : Bool). cond t (Some m) (cond t (Some m) None)) other)
first_moved m c (d ∷ ds) q other = by (named (last_of d ds).name q) refl
  where
    by : (b : Bool) → named (last_of d ds).name q ≡ b
        → cond b (Some m) (place_from (m + 1) q (before_last d ds))
        ≡ cond b (Some m) (cond (named c.name q) (Some m) (place_from (m + 1) q (d ∷ ds)))
    by true is = refl
    by false last =
        before_placed (m + 1) d ds q last
        ∙ sym (ap (λ (t : Bool). cond t (Some m) (place_from (m + 1) q (d ∷ ds))) other)

-- the numbers where the first one is forgotten
first_gone : (m k : ℕ) (name q : List ℕ) (c : Collection) (cs : List Collection) → AreDistinct (c ∷ cs)
    → named c.name name ≡ true → m ≡ k
    → place_from m q (last_first cs)
    ≡ cond (bytes_eq name q) None (cond (named (last_of c cs).name q) (Some k) (place_from m q (c ∷ cs)))
first_gone m k name q c cs distinct is first = by (bytes_eq name q) refl
  where
    by : (t : Bool) → bytes_eq name q ≡ t
        → place_from m q (last_first cs)
        ≡ cond t None (cond (named (last_of c cs).name q) (Some k) (place_from m q (c ∷ cs)))
    by true same =
        let none : collection_of cs q ≡ None = subst (λ (n : List ℕ). collection_of cs n ≡ None)
        (named_one c.name name is ∙ (bytes_decides name q).0 same) distinct.0 in
        no_place m q (last_first cs) (first_found cs q distinct.1 ∙ none)
    by false same =
        first_moved m c cs q (named_as c.name name q is same)
        ∙ ap (λ (n : ℕ). cond (named (last_of c cs).name q) (Some n) (place_from m q (c ∷ cs))) first

-- where another one is
later_gone : (m k : ℕ) (name q : List ℕ) (c d : Collection) (ds : List Collection) → AreDistinct (c ∷ d ∷ ds)
    → named c.name name ≡ false
    → place_from (m + 1) q (forgotten name (d ∷ ds))
    ≡ cond (bytes_eq name q) None (cond (named (last_of d ds).name q) (Some k) (place_from (m + 1) q (d ∷ ds)))
    → place_from m q (c ∷ forgotten name (d ∷ ds))
    ≡ cond (bytes_eq name q) None (cond (named (last_of d ds).name q) (Some k) (place_from m q (c ∷ d ∷ ds)))
later_gone m k name q c d ds distinct other more =
    by (named c.name q) refl (bytes_eq name q) refl (named (last_of d ds).name q) refl more
  where
    by : (b : Bool) → named c.name q ≡ b → (t : Bool) → bytes_eq name q ≡ t
        → (l : Bool) → named (last_of d ds).name q ≡ l
        → place_from (m + 1) q (forgotten name (d ∷ ds)) ≡ cond t None (cond l (Some k) (place_from (m + 1) q (d ∷ ds)))
        → cond b (Some m) (place_from (m + 1) q (forgotten name (d ∷ ds)))
        ≡ cond t None (cond l (Some k) (cond b (Some m) (place_from (m + 1) q (d ∷ ds))))
    by true is true same l last more =
        absurd (false≢true (sym other
        ∙ named_self c.name name (named_one c.name q is ∙ sym ((bytes_decides name q).0 same))))
    by true is false same true last more =
        absurd (false≢true (sym (apart_last c d ds distinct)
        ∙ named_self c.name (last_of d ds).name (named_one c.name q is ∙ sym (named_one (last_of d ds).name q last))))
    by true is false same false last more = refl
    by false is t same l last more = more

-- the name that is forgotten has no number, the last one's has its, and each other has its own
moved : (m k : ℕ) (name q : List ℕ) (c : Collection) (cs : List Collection) → AreDistinct (c ∷ cs)
    → place_from m name (c ∷ cs) ≡ Some k
    → place_from m q (forgotten name (c ∷ cs))
    ≡ cond (bytes_eq name q) None (cond (named (last_of c cs).name q) (Some k) (place_from m q (c ∷ cs)))
moved m k name q c [] distinct e = by (named c.name name) refl e
  where
    by : (b : Bool) → named c.name name ≡ b → cond b (Some m) None ≡ Some k
        → place_from m q (cond b [] (c ∷ []))
        ≡ cond (bytes_eq name q) None (cond (named c.name q) (Some k) (place_from m q (c ∷ [])))
    by true is e = first_gone m k name q c [] distinct is (ap (λ (x : Option ℕ). unwrap_or x 0) e)
    by false is e = absurd cc
moved m k name q c (d ∷ ds) distinct e = by (named c.name name) refl e (moved (m + 1) k name q d ds distinct.1)
  where
    by : (b : Bool) → named c.name name ≡ b → cond b (Some m) (place_from (m + 1) name (d ∷ ds)) ≡ Some k
        → (place_from (m + 1) name (d ∷ ds) ≡ Some k
        → place_from (m + 1) q (forgotten name (d ∷ ds))
        ≡ cond (bytes_eq name q) None (cond (named (last_of d ds).name q) (Some k) (place_from (m + 1) q (d ∷ ds))))
        → place_from m q (cond b (last_first (d ∷ ds)) (c ∷ forgotten name (d ∷ ds)))
        ≡ cond (bytes_eq name q) None (cond (named (last_of d ds).name q) (Some k) (place_from m q (c ∷ d ∷ ds)))
    by true is e more = first_gone m k name q c (d ∷ ds) distinct is (ap (λ (x : Option ℕ). unwrap_or x 0) e)
    by false is e more = later_gone m k name q c d ds distinct is (more e)

-- the same by the number that the last one's name is given before the other is taken away
pub forgotten_numbers : (k : ℕ) (name q : List ℕ) (cs : List Collection) (x : Collection) → AreDistinct cs
    → place_from 0 name cs ≡ Some k → x ≡ get_or cs (length cs - 1) x
    → cond (bytes_eq name q) None (cond (bytes_eq x.name q) (renumbered k (place_from 0 q cs)) (place_from 0 q cs))
    ≡ place_from 0 q (forgotten name cs)
forgotten_numbers k name q [] x distinct e last = absurd cc
forgotten_numbers k name q (c ∷ cs) x distinct e last =
    let count : length (c ∷ cs) - 1 ≡ length cs = omega arith in
    ap (λ (y : Collection). cond (bytes_eq name q) None
    (cond (bytes_eq y.name q) (renumbered k (place_from 0 q (c ∷ cs))) (place_from 0 q (c ∷ cs))))
    (last ∙ ap (λ (n : ℕ). get_or (c ∷ cs) n x) count ∙ last_item c cs x)
    ∙ ap (λ (o : Option ℕ). cond (bytes_eq name q) None o) (by (bytes_eq (last_of c cs).name q) refl)
    ∙ sym (moved 0 k name q c cs distinct e)
  where
    by : (b : Bool) → bytes_eq (last_of c cs).name q ≡ b
        → cond b (renumbered k (place_from 0 q (c ∷ cs))) (place_from 0 q (c ∷ cs))
        ≡ cond (named (last_of c cs).name q) (Some k) (place_from 0 q (c ∷ cs))
    by true is =
        last_numbered 0 k c cs q (named_is (last_of c cs).name q is)
        ∙ sym (ap (λ (t : Bool). cond t (Some k) (place_from 0 q (c ∷ cs))) (named_is (last_of c cs).name q is))
    by false is =
        sym (ap (λ (t : Bool). cond t (Some k) (place_from 0 q (c ∷ cs))) (named_not (last_of c cs).name q is))

-- the number that a name has is another, in the map
pub renumbers : (name other : List ℕ) (m n : BTreeMap (Vec ℕ Global) ℕ) (number there : ℕ)
    → Some there ≡ number_of_name m name
    → UpdatesBy (λ x y. slice_cmp nat_cmp x.items y.items) (λ k. slice_cmp nat_cmp name k.items) m n (Some number)
    → number_of_name n other
    ≡ cond (bytes_eq name other) (renumbered number (number_of_name m other)) (number_of_name m other)
renumbers name other m n number there is updates =
    updates_numbers name m n (Some number) updates other ∙ by (bytes_eq name other) refl
  where
    by : (b : Bool) → bytes_eq name other ≡ b
        → cond b (Some number) (number_of_name m other)
        ≡ cond b (renumbered number (number_of_name m other)) (number_of_name m other)
    by true same =
        subst (λ (bs : List ℕ). Some number ≡ renumbered number (number_of_name m bs)) ((bytes_decides name other).0 same)
        (ap (renumbered number) is)
    by false same = refl
