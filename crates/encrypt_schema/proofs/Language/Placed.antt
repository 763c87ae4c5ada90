-- Collections that are put: their numbers, and which is found by a name.
use Rattle.std.proofs.Common.{◌≡◌, ◌∙◌, ℕ, zero, suc, ◌+◌, ◌≤◌, ◌<◌, Bool, true, false, cond, List, [], ◌∷◌, ◌++◌}
use Rattle.std.proofs.Common.{length, set, Option, Some, None, IfSome, refl, sym, ap, subst}
use Rattle.std.proofs.Common.{arith}
use Rattle.std.proofs.lemmas.Bool.{false≢true}
use Rattle.std.specs.Cmp.Lexicographic.{bytes_decides, nat_list_eq_equiv}
use Rattle.std.specs.Prelude.{unwrap_or}
use Rattle.encrypt_schema.specs.Language.Collection.{Collection, collection_of, place_from}
use Rattle.encrypt_schema.specs.Language.Names.{named}
use Rattle.encrypt_schema.specs.Language.Putting.{AreDistinct, put_collection}

pub named_one : (a b : List ℕ) → named a b ≡ true → a ≡ b
unfolding named
named_one a b e = (bytes_decides a b).0 e

pub named_self : (a b : List ℕ) → a ≡ b → named a b ≡ true
unfolding named
named_self a b e = (bytes_decides a b).1 e

pub named_turned : (a b : List ℕ) → named a b ≡ false → named b a ≡ false
unfolding named
named_turned a b e = nat_list_eq_equiv.symm b a ∙ e

-- the number of a name is one of a collection
within_by : (b : Bool) (m : ℕ) (o : Option ℕ) (n : ℕ) → IfSome o (λ k. (m + 1 ≤ k) × (k < m + 1 + n))
    → IfSome (cond b (Some m) o) (λ k. (m ≤ k) × (k < m + suc n))
within_by true m o n h = (omega arith, omega arith)
within_by false m None n h = tt
within_by false m (Some k) n h = (omega (arith, h.0), omega (arith, h.1))

placed_within : (m : ℕ) (name : List ℕ) (cs : List Collection)
    → IfSome (place_from m name cs) (λ k. (m ≤ k) × (k < m + length cs))
placed_within m name [] = tt
placed_within m name (c ∷ cs) =
    within_by (named c.name name) m (place_from (m + 1) name cs) (length cs) (placed_within (m + 1) name cs)

pub within : (name : List ℕ) (cs : List Collection) (k : ℕ) → place_from 0 name cs ≡ Some k → k < length cs
within name cs k e =
    let h = subst (λ (o : Option ℕ). IfSome o (λ k. (0 ≤ k) × (k < 0 + length cs))) e (placed_within 0 name cs) in
    omega (arith, h.1)

-- and it is one of those that are counted
pub bounds : (m : ℕ) (name : List ℕ) (cs : List Collection) (k : ℕ) → place_from m name cs ≡ Some k
    → (m ≤ k) × (k < m + length cs)
bounds m name cs k e =
    subst (λ (o : Option ℕ). IfSome o (λ k. (m ≤ k) × (k < m + length cs))) e (placed_within m name cs)

above : (m : ℕ) (name : List ℕ) (cs : List Collection) (k : ℕ) → place_from m name cs ≡ Some k → m ≤ k
above m name cs k e = (bounds m name cs k e).0

-- the collection of a name is another
set_by : (b : Bool) (m i : ℕ) (new c : Collection) (cs rest : List Collection) (o : Option ℕ)
    → cond b (Some m) o ≡ Some (m + i) → ((k : ℕ) → o ≡ Some k → m + 1 ≤ k)
    → ((j : ℕ) → o ≡ Some (m + 1 + j) → set cs j new ≡ rest)
    → set (c ∷ cs) i new ≡ cond b (new ∷ cs) (c ∷ rest)
set_by true m zero new c cs rest o e past more = refl
set_by true m (suc i) new c cs rest o e past more =
    let same : m ≡ m + suc i = ap (λ (x : Option ℕ). unwrap_or x 0) e in absurd (omega (arith, same))
set_by false m zero new c cs rest o e past more = absurd (omega (arith, past (m + 0) e))
set_by false m (suc i) new c cs rest o e past more =
    let next : m + suc i ≡ m + 1 + i = omega arith in
    ap (λ (ds : List Collection). c ∷ ds) (more i (e ∙ ap Some next))

set_from : (m i : ℕ) (new : Collection) (cs : List Collection) → place_from m new.name cs ≡ Some (m + i)
    → set cs i new ≡ put_collection new cs
set_from m i new [] e = absurd cc
set_from m i new (c ∷ cs) e =
    set_by (named c.name new.name) m i new c cs (put_collection new cs) (place_from (m + 1) new.name cs) e
    (λ k. above (m + 1) new.name cs k) (λ j. set_from (m + 1) j new cs)

pub set_is_put : (i : ℕ) (new : Collection) (cs : List Collection) → place_from 0 new.name cs ≡ Some i
    → set cs i new ≡ put_collection new cs
set_is_put i new cs e =
    let from : i ≡ 0 + i = omega arith in set_from 0 i new cs (e ∙ ap Some from)

-- the numbers stay where one collection takes another's place
pub same_place : (m k : ℕ) (new : Collection) (cs : List Collection) (q : List ℕ)
    → place_from m new.name cs ≡ Some k → place_from m q (put_collection new cs) ≡ place_from m q cs
same_place m k new [] q e = absurd cc
same_place m k new (c ∷ cs) q e =
    by (named c.name new.name) refl e (λ found. same_place (m + 1) k new cs q found)
  where
    by : (b : Bool) → named c.name new.name ≡ b → cond b (Some m) (place_from (m + 1) new.name cs) ≡ Some k
        → (place_from (m + 1) new.name cs ≡ Some k
        → place_from (m + 1) q (put_collection new cs) ≡ place_from (m + 1) q cs)
        → place_from m q (cond b (new ∷ cs) (c ∷ put_collection new cs)) ≡ place_from m q (c ∷ cs)
    by true is e more =
        ap (λ (n : List ℕ). cond (named n q) (Some m) (place_from (m + 1) q cs)) (sym (named_one c.name new.name is))
    by false is e more = ap (cond (named c.name q) (Some m)) (more e)

-- what a name finds where a collection is put
found_by : (b d t : Bool) (new c : Collection) (x y : Option Collection)
    → (b ≡ true → d ≡ t) → (d ≡ true → t ≡ true → b ≡ true) → y ≡ cond t (Some new) x
    → cond b (cond t (Some new) x) (cond d (Some c) y) ≡ cond t (Some new) (cond d (Some c) x)
found_by true true true new c x y one two e = refl
found_by true true false new c x y one two e = absurd (false≢true (sym (one refl)))
found_by true false true new c x y one two e = absurd (false≢true (one refl))
found_by true false false new c x y one two e = refl
found_by false true true new c x y one two e = absurd (false≢true (two refl refl))
found_by false true false new c x y one two e = refl
found_by false false true new c x y one two e = e
found_by false false false new c x y one two e = e

chosen : (b : Bool) (new c : Collection) (cs rest : List Collection) (q : List ℕ)
    → collection_of (cond b (new ∷ cs) (c ∷ rest)) q
    ≡ cond b (cond (named new.name q) (Some new) (collection_of cs q))
    (cond (named c.name q) (Some c) (collection_of rest q))
chosen true new c cs rest q = refl
chosen false new c cs rest q = refl

pub found_put : (new : Collection) (cs : List Collection) (q : List ℕ)
    → collection_of (put_collection new cs) q ≡ cond (named new.name q) (Some new) (collection_of cs q)
found_put new [] q = refl
found_put new (c ∷ cs) q =
    chosen (named c.name new.name) new c cs (put_collection new cs) q
    ∙ found_by (named c.name new.name) (named c.name q) (named new.name q) new c (collection_of cs q)
    (collection_of (put_collection new cs) q)
    (λ is. ap (λ (n : List ℕ). named n q) (named_one c.name new.name is))
    (λ one two. named_self c.name new.name (named_one c.name q one ∙ sym (named_one new.name q two)))
    (found_put new cs q)

-- no two have one name where one is put
pub put_distinct : (new : Collection) (cs : List Collection) → AreDistinct cs → AreDistinct (put_collection new cs)
put_distinct new [] distinct = (refl, tt)
put_distinct new (c ∷ cs) distinct = by (named c.name new.name) refl (put_distinct new cs distinct.1)
  where
    by : (b : Bool) → named c.name new.name ≡ b → AreDistinct (put_collection new cs)
        → AreDistinct (cond b (new ∷ cs) (c ∷ put_collection new cs))
    by true is more =
        (subst (λ (n : List ℕ). collection_of cs n ≡ None) (named_one c.name new.name is) distinct.0, distinct.1)
    by false is more = (
      found_put new cs c.name
          ∙ ap (λ (t : Bool). cond t (Some new) (collection_of cs c.name)) (named_turned c.name new.name is)
          ∙ distinct.0,
      more,
    )

behind_by : (b : Bool) (new c : Collection) (cs rest : List Collection) (o : Option Collection)
    → cond b (Some c) o ≡ None → (o ≡ None → rest ≡ cs ++ new ∷ [])
    → cond b (new ∷ cs) (c ∷ rest) ≡ c ∷ cs ++ new ∷ []
behind_by true new c cs rest o e more = absurd cc
behind_by false new c cs rest o e more = ap (λ (ds : List Collection). c ∷ ds) (more e)

-- a collection of a new name is put behind the others
pub put_behind : (new : Collection) (cs : List Collection) → collection_of cs new.name ≡ None
    → put_collection new cs ≡ cs ++ new ∷ []
put_behind new [] e = refl
put_behind new (c ∷ cs) e =
    behind_by (named c.name new.name) new c cs (put_collection new cs) (collection_of cs new.name) e
    (put_behind new cs)

-- so they stay distinct
pub distinct_behind : (new : Collection) (cs : List Collection) → AreDistinct cs → collection_of cs new.name ≡ None
    → AreDistinct (cs ++ new ∷ [])
distinct_behind new cs distinct e = subst AreDistinct (put_behind new cs e) (put_distinct new cs distinct)
