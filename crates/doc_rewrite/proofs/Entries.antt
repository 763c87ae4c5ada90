-- The number of an entry by its alternate name, in a list that grows
use Rattle.std.proofs.Common.{◌≡◌, ◌∙◌, ℕ, zero, suc, ◌+◌, Bool, true, false, cond, List, [], ◌∷◌, ◌++◌, length}
use Rattle.std.proofs.Common.{Option, Some, None, Vec, Global, nat_cmp, bytes_eq, refl, sym, ap, subst, arith}
use Rattle.std.proofs.Common.{length-append}
use Rattle.std.proofs.lemmas.List.{append_assoc}
use Rattle.std.specs.BTreeMap.{BTreeMap, UpdatesBy}
use Rattle.std.specs.Cmp.Lexicographic.{bytes_decides, slice_cmp}
use Rattle.std.specs.Prelude.{is_some, option_map, slice_get}
use Rattle.bson_tree.specs.NameNumbers.{number_of_name, or_number}
use Rattle.bson_tree.proofs.NameNumbers.{or_number_if, updates_numbers}
use Rattle.payload6.specs.Needs.{Id, Name}
use Rattle.doc_rewrite.specs.declared.named_keys.NamedEntry.{NamedEntry}
use Rattle.doc_rewrite.specs.Keys.{Found as FoundKey, GivesLongIds, HaveLongIds, Table, found_by}
use Rattle.doc_rewrite.specs.Keys.{key_by_id, key_by_name, key_in, under_id}
use Rattle.doc_rewrite.specs.Numbers.{named_place}
use Rattle.doc_rewrite.proofs.Numbered.{new_by, none_there}

place_behind : (n : ℕ) (name : List ℕ) (es : List NamedEntry) (e : NamedEntry)
    → named_place n name (es ++ e ∷ []) ≡ or_number (named_place n name es) (bytes_eq e.name name) (n + length es)
place_behind n name [] e =
    let k : n ≡ n + length {A = NamedEntry} [] = omega arith in
    ap (λ (m : ℕ). cond (bytes_eq e.name name) (Some m) None) k
place_behind n name (d ∷ es) e =
    let k : n + 1 + length es ≡ n + length (d ∷ es) = omega arith in
    ap (λ (o : Option ℕ). cond (bytes_eq d.name name) (Some n) o) (place_behind (n + 1) name es e)
    ∙ or_number_if (bytes_eq d.name name) n (named_place (n + 1) name es) (bytes_eq e.name name) (n + 1 + length es)
    (n + length (d ∷ es)) k

-- the numbers by name, with one more entry
pub added : (es : List NamedEntry) (e : NamedEntry) (old new : BTreeMap (Vec ℕ Global) ℕ) (number : ℕ)
    → ((name : List ℕ) → number_of_name new name ≡ or_number (number_of_name old name) (bytes_eq e.name name) number)
    → ((name : List ℕ) → number_of_name old name ≡ named_place 0 name es) → number ≡ length es
    → (name : List ℕ) → number_of_name new name ≡ named_place 0 name (es ++ e ∷ [])
added es e old new number put known count name =
    let size : number ≡ 0 + length es = omega (arith, count) in
    put name ∙ ap (λ (o : Option ℕ). or_number o (bytes_eq e.name name) number) (known name)
    ∙ ap (or_number (named_place 0 name es) (bytes_eq e.name name)) size
    ∙ sym (place_behind 0 name es e)

-- the ids with one more entry
pub long_added : (es : List NamedEntry) (e : NamedEntry) → HaveLongIds es → length e.id ≡ 16
    → HaveLongIds (es ++ e ∷ [])
long_added [] e h long = (long, tt)
long_added (d ∷ es) e h long = (h.0, long_added es e h.1 long)

-- a name that had no number gets one, and others stay
pub first_put : (name : List ℕ) (old new : BTreeMap (Vec ℕ Global) ℕ) (number : ℕ)
    → is_some (number_of_name old name) ≡ false
    → UpdatesBy (λ x y. slice_cmp nat_cmp x.items y.items) (λ k. slice_cmp nat_cmp name k.items) old new (Some number)
    → (other : List ℕ) → number_of_name new other ≡ or_number (number_of_name old other) (bytes_eq name other) number
first_put name old new number lacks updates other =
    updates_numbers name old new (Some number) updates other
    ∙ new_by (bytes_eq name other) (number_of_name old other) number
    (λ same. subst (λ (i : List ℕ). number_of_name old i ≡ None) ((bytes_decides name other).0 same)
    (none_there (number_of_name old name) lacks))

seam : (front : List NamedEntry) (e : NamedEntry) (es : List NamedEntry) (n : ℕ) → n ≡ length front
    → slice_get (front ++ e ∷ es) n ≡ Some e
seam [] e es zero k = refl
seam [] e es (suc n) k = absurd (omega (arith, k))
seam (d ∷ front) e es zero k = absurd (omega (arith, k))
seam (d ∷ front) e es (suc n) k = seam front e es n (omega (arith, k))

-- the number of a name is that of the first entry
abbrev Found : List NamedEntry → Option FoundKey → Option ℕ → Type 0
Found all first None = first ≡ None
Found all first (Some n) = option_map found_by (slice_get all n) ≡ first

found_test : (test : Bool) (all : List NamedEntry) (e : NamedEntry) (n : ℕ) (first : Option FoundKey)
    (number : Option ℕ)
    → slice_get all n ≡ Some e → Found all first number
    → Found all (cond test (Some (found_by e)) first) (cond test (Some n) number)
found_test true all e n first number here others = ap (λ o. option_map found_by o) here
found_test false all e n first number here others = others

found_behind : (name : List ℕ) (front es : List NamedEntry)
    → Found (front ++ es) (key_by_name es name) (named_place (length front) name es)
found_behind name front [] = refl
found_behind name front (e ∷ es) =
    let all : (front ++ e ∷ []) ++ es ≡ front ++ e ∷ es = append_assoc front (e ∷ []) es in
    let next : length (front ++ e ∷ []) ≡ length front + 1 = omega (arith, length-append front (e ∷ [])) in
    let others : Found (front ++ e ∷ es) (key_by_name es name) (named_place (length front + 1) name es)
    = subst (λ (ds : List NamedEntry). Found ds (key_by_name es name) (named_place (length front + 1) name es)) all
    (subst (λ (n : ℕ). Found ((front ++ e ∷ []) ++ es) (key_by_name es name) (named_place n name es)) next
    (found_behind name (front ++ e ∷ []) es)) in
    found_test (bytes_eq e.name name) (front ++ e ∷ es) e (length front) (key_by_name es name)
    (named_place (length front + 1) name es)
    (seam front e es (length front) refl) others

-- the entry of the number that a name has
pub found_at : (name : List ℕ) (es : List NamedEntry) (n : ℕ) → named_place 0 name es ≡ Some n
    → option_map found_by (slice_get es n) ≡ key_by_name es name
found_at name es n k = subst (Found es (key_by_name es name)) k (found_behind name [] es)

-- no entry has a name without a number
pub found_none : (name : List ℕ) (es : List NamedEntry) → named_place 0 name es ≡ None → key_by_name es name ≡ None
found_none name es k = subst (Found es (key_by_name es name)) k (found_behind name [] es)

-- an id is found under itself, and what is found by a name has an id of 16 bytes
under_long : (id : List ℕ) (key : Option (List ℕ)) (f : FoundKey) → length id ≡ 16 → under_id id key ≡ Some f
    → length f.id ≡ 16
under_long id None f long e = absurd cc
under_long id (Some key) f long e = let same : record { id = id; key = key } ≡ f = cc in
    subst (λ (g : FoundKey). length g.id ≡ 16) same long

test_long : (test : Bool) (e : NamedEntry) (others : Option FoundKey) (f : FoundKey) → length e.id ≡ 16
    → cond test (Some (found_by e)) others ≡ Some f → (others ≡ Some f → length f.id ≡ 16) → length f.id ≡ 16
test_long true e others f long k h = let same : found_by e ≡ f = cc in
    subst (λ (g : FoundKey). length g.id ≡ 16) same long
test_long false e others f long k h = h k

pub name_long : (es : List NamedEntry) (name : List ℕ) (f : FoundKey) → HaveLongIds es → key_by_name es name ≡ Some f
    → length f.id ≡ 16
name_long [] name f long e = absurd cc
name_long (d ∷ es) name f long e =
    test_long (bytes_eq d.name name) d (key_by_name es name) f long.0 e (name_long es name f long.1)

pub gives_long : (t : Table) → HaveLongIds t.names → GivesLongIds (key_in t)
gives_long t long (Id id) f here e = under_long id (key_by_id t.ids id) f here e
gives_long t long (Name name) f here e = name_long t.names name f long e
