-- A collection that is forgotten, in whose place the last one stands: the numbers of names, and which is found by one.
use Rattle.std.proofs.Common.{◌≡◌, ◌∙◌, ℕ, ◌+◌, Bool, true, false, cond, List, [], ◌∷◌, Option, Some, None, refl, sym}
use Rattle.std.proofs.Common.{ap, subst}
use Rattle.encrypt_schema.specs.Language.Collection.{Collection, collection_of, place_from}
use Rattle.encrypt_schema.specs.Language.Names.{named}
use Rattle.encrypt_schema.specs.Language.Putting.{AreDistinct, before_last, forgotten, last_first, last_of}
use Rattle.encrypt_schema.proofs.Language.Placed.{named_one, named_self, named_turned}

-- ---- the last one

-- a name that isn't the last one's finds the same before it
before_found : (c : Collection) (cs : List Collection) (q : List ℕ) → named (last_of c cs).name q ≡ false
    → collection_of (before_last c cs) q ≡ collection_of (c ∷ cs) q
before_found c [] q other = sym (ap (λ (t : Bool). cond t (Some c) None) other)
before_found c (d ∷ ds) q other = ap (cond (named c.name q) (Some c)) (before_found d ds q other)

-- and the same number
pub before_placed : (j : ℕ) (c : Collection) (cs : List Collection) (q : List ℕ) → named (last_of c cs).name q ≡ false
    → place_from j q (before_last c cs) ≡ place_from j q (c ∷ cs)
before_placed j c [] q other = sym (ap (λ (t : Bool). cond t (Some j) None) other)
before_placed j c (d ∷ ds) q other = ap (cond (named c.name q) (Some j)) (before_placed (j + 1) d ds q other)

-- the last one's name finds it
last_found : (c : Collection) (cs : List Collection) (q : List ℕ) → AreDistinct (c ∷ cs)
    → named (last_of c cs).name q ≡ true → collection_of (c ∷ cs) q ≡ Some (last_of c cs)
last_found c [] q distinct is = ap (λ (t : Bool). cond t (Some c) None) is
last_found c (d ∷ ds) q distinct is = by (named c.name q) refl (last_found d ds q distinct.1 is)
  where
    by : (b : Bool) → named c.name q ≡ b → collection_of (d ∷ ds) q ≡ Some (last_of d ds)
        → cond b (Some c) (collection_of (d ∷ ds) q) ≡ Some (last_of d ds)
    by true same found =
        let none : collection_of (d ∷ ds) q ≡ None = subst (λ (n : List ℕ). collection_of (d ∷ ds) n ≡ None)
        (named_one c.name q same) distinct.0 in
        let both : Some (last_of d ds) ≡ None = sym found ∙ none in
        absurd cc
    by false other found = found

-- no other has its name
pub apart_last : (c d : Collection) (ds : List Collection) → AreDistinct (c ∷ d ∷ ds)
    → named c.name (last_of d ds).name ≡ false
apart_last c d ds distinct = by (named c.name (last_of d ds).name) refl
  where
    by : (b : Bool) → named c.name (last_of d ds).name ≡ b → b ≡ false
    by true same =
        let found = last_found d ds c.name distinct.1
        (named_self (last_of d ds).name c.name (sym (named_one c.name (last_of d ds).name same))) in
        let both : Some (last_of d ds) ≡ None = sym found ∙ distinct.0 in
        absurd cc
    by false other = refl

last_new : (c : Collection) (cs : List Collection) → AreDistinct (c ∷ cs)
    → collection_of (before_last c cs) (last_of c cs).name ≡ None
last_new c [] distinct = refl
last_new c (d ∷ ds) distinct =
    ap (λ (t : Bool). cond t (Some c) (collection_of (before_last d ds) (last_of d ds).name))
    (apart_last c d ds distinct)
    ∙ last_new d ds distinct.1

before_distinct : (c : Collection) (cs : List Collection) → AreDistinct (c ∷ cs) → AreDistinct (before_last c cs)
before_distinct c [] distinct = tt
before_distinct c (d ∷ ds) distinct = (
  before_found d ds c.name (named_turned c.name (last_of d ds).name (apart_last c d ds distinct)) ∙ distinct.0,
  before_distinct d ds distinct.1,
)

-- with the last one in front each name finds the same
pub first_found : (cs : List Collection) (q : List ℕ) → AreDistinct cs → collection_of (last_first cs) q ≡ collection_of cs q
first_found [] q distinct = refl
first_found (c ∷ cs) q distinct = by (named (last_of c cs).name q) refl
  where
    by : (b : Bool) → named (last_of c cs).name q ≡ b
        → cond b (Some (last_of c cs)) (collection_of (before_last c cs) q) ≡ collection_of (c ∷ cs) q
    by true is = sym (last_found c cs q distinct is)
    by false other = before_found c cs q other

first_distinct : (cs : List Collection) → AreDistinct cs → AreDistinct (last_first cs)
first_distinct [] distinct = tt
first_distinct (c ∷ cs) distinct = (last_new c cs distinct, before_distinct c cs distinct)

-- ---- what a name finds where one is forgotten

pub found_left : (name : List ℕ) (cs : List Collection) (q : List ℕ) → AreDistinct cs → named name q ≡ false
    → collection_of (forgotten name cs) q ≡ collection_of cs q
found_left name [] q distinct other = refl
found_left name (c ∷ cs) q distinct other = by (named c.name name) refl (found_left name cs q distinct.1 other)
  where
    by : (b : Bool) → named c.name name ≡ b
        → collection_of (forgotten name cs) q ≡ collection_of cs q
        → collection_of (cond b (last_first cs) (c ∷ forgotten name cs)) q
        ≡ cond (named c.name q) (Some c) (collection_of cs q)
    by true is more =
        first_found cs q distinct.1
        ∙ sym (ap (λ (t : Bool). cond t (Some c) (collection_of cs q))
        (ap (λ (n : List ℕ). named n q) (named_one c.name name is) ∙ other))
    by false is more = ap (cond (named c.name q) (Some c)) more

pub found_gone : (name : List ℕ) (cs : List Collection) → AreDistinct cs
    → collection_of (forgotten name cs) name ≡ None
found_gone name [] distinct = refl
found_gone name (c ∷ cs) distinct = by (named c.name name) refl (found_gone name cs distinct.1)
  where
    by : (b : Bool) → named c.name name ≡ b → collection_of (forgotten name cs) name ≡ None
        → collection_of (cond b (last_first cs) (c ∷ forgotten name cs)) name ≡ None
    by true is more =
        first_found cs name distinct.1
        ∙ subst (λ (n : List ℕ). collection_of cs n ≡ None) (named_one c.name name is) distinct.0
    by false is more = ap (λ (t : Bool). cond t (Some c) (collection_of (forgotten name cs) name)) is ∙ more

-- no two have one name
pub left_distinct : (name : List ℕ) (cs : List Collection) → AreDistinct cs → AreDistinct (forgotten name cs)
left_distinct name [] distinct = tt
left_distinct name (c ∷ cs) distinct = by (named c.name name) refl (left_distinct name cs distinct.1)
  where
    by : (b : Bool) → named c.name name ≡ b → AreDistinct (forgotten name cs)
        → AreDistinct (cond b (last_first cs) (c ∷ forgotten name cs))
    by true is more = first_distinct cs distinct.1
    by false is more = (
      found_left name cs c.name distinct.1 (named_turned c.name name is) ∙ distinct.0,
      more,
    )

left_by : (b : Bool) (c : Collection) (cs first rest : List Collection) (o : Option Collection)
    → cond b (Some c) o ≡ None → (o ≡ None → rest ≡ cs) → cond b first (c ∷ rest) ≡ c ∷ cs
left_by true c cs first rest o e more = absurd cc
left_by false c cs first rest o e more = ap (λ (ds : List Collection). c ∷ ds) (more e)

-- a name that finds none changes nothing
pub none_left : (name : List ℕ) (cs : List Collection) → collection_of cs name ≡ None → forgotten name cs ≡ cs
none_left name [] e = refl
none_left name (c ∷ cs) e =
    left_by (named c.name name) c cs (last_first cs) (forgotten name cs) (collection_of cs name) e (none_left name cs)
