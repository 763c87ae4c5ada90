-- The number of an entry by its id, in a list that grows
use Rattle.std.proofs.Common.{◌≡◌, ◌∙◌, ℕ, zero, suc, ◌+◌, Bool, true, false, cond, List, [], ◌∷◌, ◌++◌, length}
use Rattle.std.proofs.Common.{Option, Some, None, bytes_eq, refl, sym, ap, subst, arith, length-append}
use Rattle.std.proofs.lemmas.List.{append_assoc}
use Rattle.std.proofs.lemmas.Map.Text.{is_eq-slice_cmp}
use Rattle.std.specs.BTreeMap.{BTreeMap, UpdatesBy}
use Rattle.std.specs.Cmp.Lexicographic.{bytes_decides, slice_cmp}
use Rattle.std.specs.Ordering.{nat_cmp}
use Rattle.std.specs.Prelude.{is_some}
use Rattle.std.specs.Prelude.{option_map, slice_get}
use Rattle.bson_tree.specs.NameNumbers.{or_number}
use Rattle.bson_tree.proofs.NameNumbers.{or_number_if}
use Rattle.doc_rewrite.specs.declared.key_table.KeyEntry.{KeyEntry}
use Rattle.doc_rewrite.specs.Keys.{key_by_id}
use Rattle.doc_rewrite.specs.Numbers.{number_of_id, place_from}

place_behind : (n : ℕ) (id : List ℕ) (es : List KeyEntry) (e : KeyEntry)
    → place_from n id (es ++ e ∷ []) ≡ or_number (place_from n id es) (bytes_eq e.id id) (n + length es)
place_behind n id [] e =
    let k : n ≡ n + length {A = KeyEntry} [] = omega arith in
    ap (λ (m : ℕ). cond (bytes_eq e.id id) (Some m) None) k
place_behind n id (d ∷ es) e =
    let k : n + 1 + length es ≡ n + length (d ∷ es) = omega arith in
    ap (λ (o : Option ℕ). cond (bytes_eq d.id id) (Some n) o) (place_behind (n + 1) id es e)
    ∙ or_number_if (bytes_eq d.id id) n (place_from (n + 1) id es) (bytes_eq e.id id) (n + 1 + length es)
    (n + length (d ∷ es)) k

pub none_there : (o : Option ℕ) → is_some o ≡ false → o ≡ None
none_there None e = refl
none_there (Some n) e = absurd cc

pub new_by : (test : Bool) (o : Option ℕ) (number : ℕ) → (test ≡ true → o ≡ None)
    → cond test (Some number) o ≡ or_number o test number
new_by true o number none = sym (ap (λ (p : Option ℕ). or_number p true number) (none refl))
new_by false None number none = refl
new_by false (Some n) number none = refl

-- an id that had no number gets one, and others stay
pub first_put : (id : List ℕ) (old new : BTreeMap (List ℕ) ℕ) (number : ℕ) → is_some (number_of_id old id) ≡ false
    → UpdatesBy (slice_cmp nat_cmp) (slice_cmp nat_cmp id) old new (Some number)
    → (other : List ℕ) → number_of_id new other ≡ or_number (number_of_id old other) (bytes_eq id other) number
first_put id old new number lacks updates other =
    updates.0 other ∙ ap (λ (b : Bool). cond b (Some number) (number_of_id old other)) (is_eq-slice_cmp id other)
    ∙ new_by (bytes_eq id other) (number_of_id old other) number
    (λ same. subst (λ (i : List ℕ). number_of_id old i ≡ None) ((bytes_decides id other).0 same)
    (none_there (number_of_id old id) lacks))

-- the numbers by id, with one more entry
pub added : (es : List KeyEntry) (e : KeyEntry) (old new : BTreeMap (List ℕ) ℕ) (number : ℕ)
    → ((id : List ℕ) → number_of_id new id ≡ or_number (number_of_id old id) (bytes_eq e.id id) number)
    → ((id : List ℕ) → number_of_id old id ≡ place_from 0 id es) → number ≡ length es
    → (id : List ℕ) → number_of_id new id ≡ place_from 0 id (es ++ e ∷ [])
added es e old new number put known count id =
    let size : number ≡ 0 + length es = omega (arith, count) in
    put id ∙ ap (λ (o : Option ℕ). or_number o (bytes_eq e.id id) number) (known id)
    ∙ ap (or_number (place_from 0 id es) (bytes_eq e.id id)) size
    ∙ sym (place_behind 0 id es e)

seam : (front : List KeyEntry) (e : KeyEntry) (es : List KeyEntry) (n : ℕ) → n ≡ length front
    → slice_get (front ++ e ∷ es) n ≡ Some e
seam [] e es zero k = refl
seam [] e es (suc n) k = absurd (omega (arith, k))
seam (d ∷ front) e es zero k = absurd (omega (arith, k))
seam (d ∷ front) e es (suc n) k = seam front e es n (omega (arith, k))

-- the number of an id is that of the first key
abbrev Found : List KeyEntry → Option (List ℕ) → Option ℕ → Type 0
Found all first None = first ≡ None
Found all first (Some n) = option_map (λ e. e.key) (slice_get all n) ≡ first

found_by : (test : Bool) (all : List KeyEntry) (e : KeyEntry) (n : ℕ) (first : Option (List ℕ)) (number : Option ℕ)
    → slice_get all n ≡ Some e → Found all first number
    → Found all (cond test (Some e.key) first) (cond test (Some n) number)
found_by true all e n first number here others = ap (λ o. option_map (λ d. d.key) o) here
found_by false all e n first number here others = others

found_behind : (id : List ℕ) (front es : List KeyEntry)
    → Found (front ++ es) (key_by_id es id) (place_from (length front) id es)
found_behind id front [] = refl
found_behind id front (e ∷ es) =
    let all : (front ++ e ∷ []) ++ es ≡ front ++ e ∷ es = append_assoc front (e ∷ []) es in
    let next : length (front ++ e ∷ []) ≡ length front + 1 = omega (arith, length-append front (e ∷ [])) in
    let others : Found (front ++ e ∷ es) (key_by_id es id) (place_from (length front + 1) id es)
    = subst (λ (ds : List KeyEntry). Found ds (key_by_id es id) (place_from (length front + 1) id es)) all
    (subst (λ (n : ℕ). Found ((front ++ e ∷ []) ++ es) (key_by_id es id) (place_from n id es)) next
    (found_behind id (front ++ e ∷ []) es)) in
    found_by (bytes_eq e.id id) (front ++ e ∷ es) e (length front) (key_by_id es id)
    (place_from (length front + 1) id es)
    (seam front e es (length front) refl) others

-- the key of the number that an id has
pub found_at : (id : List ℕ) (es : List KeyEntry) (n : ℕ) → place_from 0 id es ≡ Some n
    → option_map (λ e. e.key) (slice_get es n) ≡ key_by_id es id
found_at id es n k = subst (Found es (key_by_id es id)) k (found_behind id [] es)

-- no entry has an id without a number
pub found_none : (id : List ℕ) (es : List KeyEntry) → place_from 0 id es ≡ None → None ≡ key_by_id es id
found_none id es k = sym (subst (Found es (key_by_id es id)) k (found_behind id [] es))

behind_if : (test : Bool) (key : List ℕ) (first all others : Option (List ℕ)) → cond test (Some key) first ≡ None
    → (first ≡ None → all ≡ others) → cond test (Some key) all ≡ others
behind_if true key first all others k h = absurd cc
behind_if false key first all others k h = h k

before_if : (test : Bool) (own : List ℕ) (first all : Option (List ℕ)) (key : List ℕ)
    → cond test (Some own) first ≡ Some key → (first ≡ Some key → all ≡ Some key) → cond test (Some own) all ≡ Some key
before_if true own first all key k h = k
before_if false own first all key k h = h k

-- a look-up in two lists: in the second, where the first has nothing
pub key_behind : (id : List ℕ) (es fs : List KeyEntry) → key_by_id es id ≡ None
    → key_by_id (es ++ fs) id ≡ key_by_id fs id
key_behind id [] fs k = refl
key_behind id (e ∷ es) fs k =
    behind_if (bytes_eq e.id id) e.key (key_by_id es id) (key_by_id (es ++ fs) id) (key_by_id fs id) k
    (key_behind id es fs)

-- and in the first
pub key_before : (id : List ℕ) (es fs : List KeyEntry) (key : List ℕ) → key_by_id es id ≡ Some key
    → key_by_id (es ++ fs) id ≡ Some key
key_before id [] fs key k = absurd cc
key_before id (e ∷ es) fs key k =
    before_if (bytes_eq e.id id) e.key (key_by_id es id) (key_by_id (es ++ fs) id) key k (key_before id es fs key)
