-- Elements one after the other, as a loop reads them.
use Rattle.std.proofs.Common.{◌≡◌, ℕ, zero, suc, ◌+◌, ◌<◌, ◌≤◌, List, [], ◌∷◌, length, take, drop, refl, sym, ap, ◌∙◌}
use Rattle.std.proofs.Common.{arith, Result, Ok, Err, length-drop}
use Rattle.bson_tree.specs.Tree.{Tree, Items, no_items, item, join}
use Rattle.bson_codec.specs.declared.fault.BsonFault.{BsonFault}
use Rattle.bson_codec.specs.declared.fault.CodecFault.{CodecFault}
use Rattle.bson_codec.specs.declared.fault.CodecFault.TheVariants as errors
use Rattle.bson_codec.specs.Fault.{◌>>=◌, Fails}
use Rattle.bson_codec.specs.Reading.{Reader, First, type_at, cstring_at, value_at, first_at, rounds_at, elements_at}
use Rattle.bson_codec.specs.Reading.{first_width, fault_of}
use Rattle.bson_codec.proofs.Steps.{bind_ok, bind_same, ok_is, refused}

-- the elements that were read before, and those of a reading
abbrev pub with_front : Items → Result Items BsonFault → Result Items BsonFault
with_front front read = read >>= λ is. Ok (join front is)

-- an element has a type byte and the 00 of its name
pub first_wide : (f : Reader) (p : ℕ) (bs : List ℕ) (x : First) → first_at f p bs ≡ Ok x → 0 < x.width
unfolding first_at
first_wide f p [] x e = absurd cc
first_wide f p (tag ∷ bs) x e =
    let a = bind_ok (type_at p tag) _ x e in
    let b = bind_ok (cstring_at (p + 1) bs) _ x a.then in
    let c = bind_ok (value_at f tag a.value (p + (b.value + 2)) (drop (b.value + 1) bs)) _ x b.then in
    let made : First = record { name = take b.value bs; tree = c.value.0; width = b.value + 2 + c.value.1 } in
    let width : b.value + 2 + c.value.1 ≡ x.width = ap (λ (y : First). y.width) (ok_is made x c.then) in
    omega arith

-- with enough rounds, more of them read the same
pub rounds_same : (f : Reader) (n m p : ℕ) (bs : List ℕ) → length bs ≤ n → length bs ≤ m
    → rounds_at f n p bs ≡ rounds_at f m p bs
unfolding rounds_at
rounds_same f zero zero p bs h k = refl
rounds_same f zero (suc m) p [] h k = refl
rounds_same f zero (suc m) p (tag ∷ bs) h k = absurd (omega arith)
rounds_same f (suc n) zero p [] h k = refl
rounds_same f (suc n) zero p (tag ∷ bs) h k = absurd (omega arith)
rounds_same f (suc n) (suc m) p [] h k = refl
rounds_same f (suc n) (suc m) p (tag ∷ bs) h k =
    bind_same (first_at f p (tag ∷ bs)) _ _ (λ x e.
    let wide = first_wide f p (tag ∷ bs) x e in
    let less : length (drop x.width (tag ∷ bs)) ≤ n = omega (arith, length-drop x.width (tag ∷ bs)) in
    let less' : length (drop x.width (tag ∷ bs)) ≤ m = omega (arith, length-drop x.width (tag ∷ bs)) in
    ap (λ (r : Result Items BsonFault). r >>= λ others. Ok (item x.name x.tree others))
    (rounds_same f n m (p + x.width) (drop x.width (tag ∷ bs)) less less'))

-- one element, and the elements behind it
pub elements_step : (f : Reader) (p : ℕ) (bs : List ℕ) → 0 < length bs
    → elements_at f p bs
    ≡ (first_at f p bs >>= λ x. elements_at f (p + x.width) (drop x.width bs) >>= λ others. Ok
    (item x.name x.tree others))
unfolding elements_at rounds_at
elements_step f p [] h = absurd (omega arith)
elements_step f p (tag ∷ bs) h =
    bind_same (first_at f p (tag ∷ bs)) _ _ (λ x e.
    let wide = first_wide f p (tag ∷ bs) x e in
    let less : length (drop x.width (tag ∷ bs)) ≤ length bs = omega (arith, length-drop x.width (tag ∷ bs)) in
    ap (λ (r : Result Items BsonFault). r >>= λ others. Ok (item x.name x.tree others))
    (rounds_same f (length bs) (length (drop x.width (tag ∷ bs))) (p + x.width) (drop x.width (tag ∷ bs)) less
    (omega arith)))

join_item : (front : Items) (name : List ℕ) (t : Tree) (is : Items)
    → join front (item name t is) ≡ join (join front (item name t no_items)) is
join_item no_items name t is = refl
join_item (item n u front) name t is = ap (item n u) (join_item front name t is)

pub join_none : (front : Items) → join front no_items ≡ front
join_none no_items = refl
join_none (item n u front) = ap (item n u) (join_none front)

regroup : (front : Items) (x : First) (read : Result Items BsonFault)
    → with_front front (read >>= λ others. Ok (item x.name x.tree others))
    ≡ with_front (join front (item x.name x.tree no_items)) read
regroup front x (Ok is) = ap (λ (js : Items). Ok js) (join_item front x.name x.tree is)
regroup front x (Err e) = refl

-- a turn of the loop
pub goes_on : (f : Reader) (front : Items) (p : ℕ) (bs : List ℕ) (x : First) (total : Result Items BsonFault)
    → 0 < length bs → first_at f p bs ≡ Ok x
    → with_front front (elements_at f p bs) ≡ total
    → with_front (join front (item x.name x.tree no_items)) (elements_at f (p + x.width) (drop x.width bs)) ≡ total
goes_on f front p bs x total h e so_far =
    let one : elements_at f p bs ≡ (elements_at f (p + x.width) (drop x.width bs) >>= λ others. Ok
    (item x.name x.tree others)) =
    elements_step f p bs h ∙ ap (λ (r : Result First BsonFault). r >>= λ x. elements_at f (p + x.width)
    (drop x.width bs) >>= λ others. Ok (item x.name x.tree others)) e in
    sym (regroup front x (elements_at f (p + x.width) (drop x.width bs))) ∙ ap (with_front front) (sym one) ∙ so_far

-- the loop at a fault
pub ends : (f : Reader) (front : Items) (p : ℕ) (bs : List ℕ) (e : CodecFault) (total : Result Items BsonFault)
    → 0 < length bs → Fails e (first_at f p bs)
    → with_front front (elements_at f p bs) ≡ total → Fails e total
ends f front p bs errors.Memory total h failed so_far = tt
ends f front p bs (errors.Bson d) total h failed so_far =
    let one : elements_at f p bs ≡ Err d =
    elements_step f p bs h ∙ ap (λ (r : Result First BsonFault). r >>= λ x. elements_at f (p + x.width)
    (drop x.width bs) >>= λ others. Ok (item x.name x.tree others)) failed in
    sym so_far ∙ ap (with_front front) one

-- the loop at its end
pub is_done : (f : Reader) (front : Items) (p : ℕ) (bs : List ℕ) (total : Result Items BsonFault) → length bs ≡ 0
    → with_front front (elements_at f p bs) ≡ total → total ≡ Ok front
unfolding elements_at rounds_at
is_done f front p [] total h so_far = sym so_far ∙ ap (λ (js : Items). Ok js) (join_none front)
is_done f front p (b ∷ bs) total h so_far = absurd (omega arith)

-- ---- the same, of the faults alone

record KnownFirst (r : Result First BsonFault) (w : ℕ) : Type 0 where
  first : First
  is : r ≡ Ok first
  width : first.width ≡ w

known_first : (r : Result First BsonFault) (w : ℕ) → first_width r ≡ Ok w → KnownFirst r w
known_first (Ok x) w e = record { first = x; is = refl; width = ok_is x.width w e }
known_first (Err d) w e = absurd (refused d w e)

known_fault : (r : Result First BsonFault) (d : BsonFault) → first_width r ≡ Err d → r ≡ Err d
known_fault (Ok x) d e = absurd cc
known_fault (Err f) d e = let same : f ≡ d = cc in ap (λ (g : BsonFault). Err g) same

fault_behind : (x : First) (r : Result Items BsonFault)
    → fault_of {A = Items} (r >>= λ others. Ok (item x.name x.tree others)) ≡ fault_of r
fault_behind x (Ok is) = refl
fault_behind x (Err d) = refl

-- a turn of the loop
pub check_goes_on : (f : Reader) (p : ℕ) (bs : List ℕ) (w : ℕ) (total : Result (Unit {0}) BsonFault) → 0 < length bs
    → first_width (first_at f p bs) ≡ Ok w
    → fault_of (elements_at f p bs) ≡ total → fault_of (elements_at f (p + w) (drop w bs)) ≡ total
check_goes_on f p bs w total h e so_far =
    let k = known_first (first_at f p bs) w e in
    let x = k.first in
    let one : elements_at f p bs ≡ (elements_at f (p + x.width) (drop x.width bs) >>= λ others. Ok
    (item x.name x.tree others)) =
    elements_step f p bs h ∙ ap (λ (r : Result First BsonFault). r >>= λ x. elements_at f (p + x.width)
    (drop x.width bs) >>= λ others. Ok (item x.name x.tree others)) k.is in
    ap (λ (m : ℕ). fault_of (elements_at f (p + m) (drop m bs))) (sym k.width)
    ∙ sym (fault_behind x (elements_at f (p + x.width) (drop x.width bs)))
    ∙ ap (λ (r : Result Items BsonFault). fault_of r) (sym one)
    ∙ so_far

-- the loop at a fault
pub check_ends : (f : Reader) (p : ℕ) (bs : List ℕ) (d : BsonFault) (total : Result (Unit {0}) BsonFault)
    → 0 < length bs → first_width (first_at f p bs) ≡ Err d
    → fault_of (elements_at f p bs) ≡ total → Err d ≡ total
check_ends f p bs d total h e so_far =
    let one : elements_at f p bs ≡ Err d =
    elements_step f p bs h
    ∙ ap (λ (r : Result First BsonFault). r >>= λ x. elements_at f (p + x.width) (drop x.width bs) >>= λ others. Ok
    (item x.name x.tree others)) (known_fault (first_at f p bs) d e) in
    sym (ap (λ (r : Result Items BsonFault). fault_of r) one) ∙ so_far

-- the loop at its end
pub check_done : (f : Reader) (p : ℕ) (bs : List ℕ) (total : Result (Unit {0}) BsonFault) → length bs ≡ 0
    → fault_of (elements_at f p bs) ≡ total → Ok tt ≡ total
unfolding elements_at rounds_at
check_done f p [] total h so_far = so_far
check_done f p (b ∷ bs) total h so_far = absurd (omega arith)
