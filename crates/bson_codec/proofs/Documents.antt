-- Documents: what is read is spelled so, and what is spelled so is read.
use Rattle.std.proofs.Common.{◌≡◌, ℕ, zero, suc, ◌+◌, ◌-◌, ◌^◌, ◌<◌, ◌≤◌, Bool, true, false, not, ◌&&◌, ltb, leb, eqb}
use Rattle.std.proofs.Common.{List, [], ◌∷◌, ◌++◌, length, take, drop, Ok, refl, sym, ap, subst, ◌∙◌, arith}
use Rattle.std.specs.Int.{w32, to_le_bytes}
use Rattle.std.proofs.lemmas.Bool.{ltb-false, le-ltb, leb-false, lt-leb, ne_eqb, eq-eqb, eqb-true, eqb-false, not-false}
use Rattle.std.proofs.lemmas.List.{drop-drop, length-drop, append-nil, nil_from_length}
use Rattle.bson_tree.specs.Tree.{Items}
use Rattle.bson_tree.specs.Spelling.{framed, items_bytes, doc_bytes}
use Rattle.bson_codec.specs.Fault.{fault_if}
use Rattle.bson_codec.specs.Layout.{IsInside, AreElements, IsItems, IsDoc, level_limit}
use Rattle.bson_codec.specs.Reading.{Reader, signed_below, int32_at, length_at, zero_at, elements_at, framed_at}
use Rattle.bson_codec.specs.Reading.{inside_length_at, nested_at, inside_at, stated_at, total_at, front_document}
use Rattle.bson_codec.specs.Reading.{document}
use Rattle.bson_codec.proofs.Steps.{ok_is, bind_ok, none_if, chose_ok, neither, refused}
use Rattle.bson_codec.specs.Bytes.{AreBytes}
use Rattle.bson_codec.proofs.Pieces.{AreBytes-drop, AreBytes-take, Begins, begins_take, begins_then, begins_is}
use Rattle.bson_codec.proofs.Pieces.{begins_fits, begins_of, begins_first, begins_second}
use Rattle.bson_codec.proofs.Lengths.{number_takes, number_again, length_takes, length_again, zero_takes, zero_again}
use Rattle.bson_tree.proofs.Sizes.{framed_size}
use Rattle.bson_codec.proofs.Readers.{Reads, InsideRead}
use Rattle.bson_codec.proofs.Elements.{elements_take, elements_again}

-- a document of n bytes that was read
pub record FrameRead (D : Items → Type 0) (bs : List ℕ) (n : ℕ) (x : Items × ℕ) : Type 0 where
  pub elements : AreElements D x.0
  pub size : n ≡ x.1
  pub parts : Begins bs (doc_bytes x.0) x.1

frame_parts : (bs elements : List ℕ) (k : ℕ) → Begins bs (to_le_bytes w32 (k + 5)) 4 → Begins (drop 4 bs) elements k
    → Begins (drop (4 + k) bs) (0 ∷ []) 1 → Begins bs (framed elements) (k + 5)
frame_parts bs elements k head inside end =
    let last : Begins (drop k (drop 4 bs)) (0 ∷ []) 1 =
    subst (λ (x : List ℕ). Begins x (0 ∷ []) 1) (sym (drop-drop k 4 bs)) end in
    let tail : Begins (drop 4 bs) (elements ++ 0 ∷ []) (k + 1) =
    begins_then (drop 4 bs) elements (0 ∷ []) k 1 inside last in
    let whole = begins_then bs (to_le_bytes w32 (k + 5)) (elements ++ 0 ∷ []) 4 (k + 1) head tail in
    let sized : Begins bs (framed elements) (4 + (k + 1)) =
    subst (λ (j : ℕ). Begins bs (to_le_bytes w32 (j + 5) ++ (elements ++ 0 ∷ [])) (4 + (k + 1)))
    (sym inside.size) whole in
    let sum : 4 + (k + 1) ≡ k + 5 = omega arith in
    subst (λ (j : ℕ). Begins bs (framed elements) j) sum sized

pub framed_takes : (D : Items → Type 0) (f : Reader) (reads : Reads f D) (n p : ℕ) (bs : List ℕ) (x : Items × ℕ)
    → AreBytes bs → 5 ≤ n → n ≤ length bs → Begins bs (to_le_bytes w32 n) 4
    → framed_at f n p bs ≡ Ok x → FrameRead D bs n x
unfolding framed_at
framed_takes D f reads n p bs x fits least short head e =
    let a = bind_ok (elements_at f (p + 4) (take (n - 5) (drop 4 bs))) _ x e in
    let b = bind_ok (zero_at (n - 1) p bs) _ x a.then in
    let k : ℕ = n - 5 in
    let inside : AreBytes (take k (drop 4 bs)) = AreBytes-take k (drop 4 bs) (AreBytes-drop 4 bs fits) in
    let read = elements_take D f reads (p + 4) (take k (drop 4 bs)) a.value inside a.first in
    let sum : n ≡ k + 5 = omega arith in
    let room : k ≤ length (drop 4 bs) = omega (arith, length-drop 4 bs) in
    let last : n - 1 < length bs = omega arith in
    let place : n - 1 ≡ 4 + k = omega arith in
    let elements : Begins (drop 4 bs) (items_bytes a.value) k =
    subst (λ (text : List ℕ). Begins (drop 4 bs) text k) read.parts (begins_take k (drop 4 bs) room) in
    let end : Begins (drop (4 + k) bs) (0 ∷ []) 1 =
    subst (λ (j : ℕ). Begins (drop j bs) (0 ∷ []) 1) place (zero_takes (n - 1) p bs b.value last b.first) in
    let stated : Begins bs (to_le_bytes w32 (k + 5)) 4 = subst (λ (j : ℕ). Begins bs (to_le_bytes w32 j) 4) sum head in
    let whole : Begins bs (doc_bytes a.value) n =
    subst (λ (j : ℕ). Begins bs (doc_bytes a.value) j) (sym sum)
    (frame_parts bs (items_bytes a.value) k stated elements end) in
    subst (λ (y : Items × ℕ). FrameRead D bs n y) (ok_is (a.value, n) x b.then) (record {
      elements = read.laid;
      size = refl;
      parts = whole;
    })

pub framed_again : (D : Items → Type 0) (f : Reader) (reads : Reads f D) (p : ℕ) (bs : List ℕ) (is : Items) (n : ℕ)
    → AreElements D is → Begins bs (doc_bytes is) n → framed_at f n p bs ≡ Ok (is, n)
unfolding framed_at
framed_again D f reads p bs is n laid begins =
    let elements = items_bytes is in
    let size : length elements + 5 ≡ n = sym (framed_size elements) ∙ begins.size in
    let tail : Begins (drop 4 bs) (elements ++ 0 ∷ []) (length (elements ++ 0 ∷ [])) =
    begins_second bs (to_le_bytes w32 (length elements + 5)) (elements ++ 0 ∷ []) n begins in
    let inside : Begins (drop 4 bs) elements (length elements) = begins_first (drop 4 bs) elements (0 ∷ []) _ tail in
    let last : Begins (drop (length elements) (drop 4 bs)) (0 ∷ []) 1 =
    begins_second (drop 4 bs) elements (0 ∷ []) _ tail in
    let count : length elements ≡ n - 5 = omega (arith, size) in
    let text : take (n - 5) (drop 4 bs) ≡ elements =
    ap (λ (k : ℕ). take k (drop 4 bs)) (sym count) ∙ begins_is (drop 4 bs) elements (length elements) inside in
    let place : drop (length elements) (drop 4 bs) ≡ drop (n - 1) bs =
    drop-drop (length elements) 4 bs ∙ ap (λ (m : ℕ). drop m bs) (omega (arith, size)) in
    let end : Begins (drop (n - 1) bs) (0 ∷ []) 1 = subst (λ (x : List ℕ). Begins x (0 ∷ []) 1) place last in
    let a : elements_at f (p + 4) (take (n - 5) (drop 4 bs)) ≡ Ok is =
    elements_again D f reads is (p + 4) (take (n - 5) (drop 4 bs)) laid text in
    let b : zero_at (n - 1) p bs ≡ Ok tt = zero_again (n - 1) p bs end in
    rw (a, b) refl

-- ---- documents inside others

-- what the length of a document inside is
record InsideLength (levels : ℕ) (fills : Bool) (bs : List ℕ) (n : ℕ) : Type 0 where
  some : 0 < levels
  head : Begins bs (to_le_bytes w32 n) 4
  least : 5 ≤ n
  small : n < 2 ^ 31
  short : n ≤ length bs
  full : fills ≡ true → n ≡ length bs

fills_all : (fills : Bool) (n m : ℕ) → (fills && not (eqb n m)) ≡ false → fills ≡ true → n ≡ m
fills_all true n m e h = eqb-true n m (not-false (eqb n m) e)
fills_all false n m e h = absurd cc

length_takes_inside : (levels : ℕ) (fills : Bool) (p : ℕ) (bs : List ℕ) (n : ℕ) → AreBytes bs
    → inside_length_at levels fills p bs ≡ Ok n → InsideLength levels fills bs n
unfolding inside_length_at
length_takes_inside levels fills p bs n fits e =
    let a = bind_ok (int32_at p bs) _ n e in
    let b = bind_ok (fault_if (eqb levels 0) _ p) _ n a.then in
    let c = bind_ok (length_at 5 0 a.value p bs) _ n b.then in
    let d = bind_ok (fault_if (fills && not (eqb c.value (length bs))) _ p) _ n c.then in
    let j = length_takes 5 0 a.value p bs c.value c.first in
    let is : c.value ≡ n = ok_is c.value n d.then in
    let none : levels ≡ 0 → ⊥ = eqb-false levels 0 (none_if _ _ _ _ b.first) in
    let full = fills_all fills c.value (length bs) (none_if _ _ _ _ d.first) in
    record {
      some = omega arith;
      head = subst (λ (m : ℕ). Begins bs (to_le_bytes w32 m) 4) (j.same ∙ is) (number_takes p bs a.value fits a.first);
      least = omega (arith, j.least, j.same, is);
      small = omega (arith, j.small, j.same, is);
      short = omega (arith, j.fits, j.same, is);
      full = λ h. sym is ∙ full h;
    }

fills_not : (fills : Bool) (n m : ℕ) → (fills ≡ true → n ≡ m) → (fills && not (eqb n m)) ≡ false
fills_not true n m h = let same : eqb n m ≡ true = eq-eqb n m (h refl) in rw same refl
fills_not false n m h = refl

length_again_inside : (levels : ℕ) (fills : Bool) (p : ℕ) (bs : List ℕ) (n : ℕ) → InsideLength levels fills bs n
    → inside_length_at levels fills p bs ≡ Ok n
unfolding inside_length_at
length_again_inside levels fills p bs n h =
    let some = h.some in
    let small = h.small in
    let a : int32_at p bs ≡ Ok n = number_again p bs n (omega arith) h.head in
    let b : eqb levels 0 ≡ false = ne_eqb levels 0 (λ z. omega (arith, z)) in
    let c : length_at 5 0 n p bs ≡ Ok n = length_again 5 0 n p bs h.least small (omega (arith, h.short)) in
    let d : (fills && not (eqb n (length bs))) ≡ false = fills_not fills n (length bs) h.full in
    rw (a, b, c, d) refl

nested_takes : (D : Items → Type 0) (f : Reader) (reads : Reads f D) (levels : ℕ) (fills : Bool) (p : ℕ) (bs : List ℕ)
    (x : Items × ℕ) → AreBytes bs → nested_at f levels fills p bs ≡ Ok x
    → InsideRead (AreElements D) bs x
unfolding nested_at
nested_takes D f reads levels fills p bs x fits e =
    let a = bind_ok (inside_length_at levels fills p bs) _ x e in
    let h = length_takes_inside levels fills p bs a.value fits a.first in
    let read = framed_takes D f reads a.value p bs x fits h.least h.short h.head a.then in
    record {
      inside = record { inside = read.elements; fits = omega (arith, read.parts.size, read.size, h.small) };
      parts = read.parts;
    }

frame_size : (f : Reader) (n p : ℕ) (bs : List ℕ) (x : Items × ℕ) → framed_at f n p bs ≡ Ok x → n ≡ x.1
unfolding framed_at
frame_size f n p bs x e =
    let a = bind_ok (elements_at f (p + 4) (take (n - 5) (drop 4 bs))) _ x e in
    let b = bind_ok (zero_at (n - 1) p bs) _ x a.then in
    ap (λ (y : Items × ℕ). y.1) (ok_is (a.value, n) x b.then)

length_is_full : (levels p : ℕ) (bs : List ℕ) (n : ℕ) → inside_length_at levels true p bs ≡ Ok n → n ≡ length bs
unfolding inside_length_at
length_is_full levels p bs n e =
    let a = bind_ok (int32_at p bs) _ n e in
    let b = bind_ok (fault_if (eqb levels 0) _ p) _ n a.then in
    let c = bind_ok (length_at 5 0 a.value p bs) _ n b.then in
    let d = bind_ok (fault_if (not (eqb c.value (length bs))) _ p) _ n c.then in
    sym (ok_is c.value n d.then) ∙ fills_all true c.value (length bs) (none_if _ _ _ _ d.first) refl

nested_full : (f : Reader) (levels p : ℕ) (bs : List ℕ) (x : Items × ℕ) → nested_at f levels true p bs ≡ Ok x
    → x.1 ≡ length bs
unfolding nested_at
nested_full f levels p bs x e =
    let a = bind_ok (inside_length_at levels true p bs) _ x e in
    sym (frame_size f a.value p bs x a.then) ∙ length_is_full levels p bs a.value a.first

nested_again : (D : Items → Type 0) (f : Reader) (reads : Reads f D) (levels : ℕ) (fills : Bool) (p : ℕ) (bs : List ℕ)
    (is : Items) (n : ℕ) → 0 < levels → IsInside (AreElements D) is
    → Begins bs (doc_bytes is) n → (fills ≡ true → n ≡ length bs) → nested_at f levels fills p bs ≡ Ok (is, n)
unfolding nested_at
nested_again D f reads levels fills p bs is n some inside begins full =
    let elements = items_bytes is in
    let size : length elements + 5 ≡ n = sym (framed_size elements) ∙ begins.size in
    let head : Begins bs (to_le_bytes w32 (length elements + 5)) 4 =
    begins_first bs (to_le_bytes w32 (length elements + 5)) (elements ++ 0 ∷ []) n begins in
    let stated : Begins bs (to_le_bytes w32 n) 4 = subst (λ (m : ℕ). Begins bs (to_le_bytes w32 m) 4) size head in
    let a : inside_length_at levels fills p bs ≡ Ok n =
    length_again_inside levels fills p bs n
    (record {
      some = some;
      head = stated;
      least = omega (arith, size);
      small = omega (arith, inside.fits, begins.size);
      short = begins_fits bs _ n begins;
      full = full;
    }) in
    let b : framed_at f n p bs ≡ Ok (is, n) = framed_again D f reads p bs is n inside.inside begins in
    rw (a, b) refl

none_takes : (f : Reader) (fills : Bool) (p : ℕ) (bs : List ℕ) (x : Items × ℕ) → nested_at f 0 fills p bs ≡ Ok x → ⊥
unfolding nested_at inside_length_at
none_takes f fills p bs x e =
    let a = bind_ok (inside_length_at 0 fills p bs) _ x e in
    let b = bind_ok (int32_at p bs) _ a.value a.first in
    refused _ a.value b.then

-- documents of so many levels are read, and no others
pub inside_reads : (levels : ℕ) → Reads (inside_at levels) (IsItems levels)
unfolding inside_at
inside_reads zero = record {
  takes = λ fills p bs x fits e. absurd (none_takes _ fills p bs x e);
  full = λ p bs x e. absurd (none_takes _ true p bs x e);
  again = λ fills p bs is n inside begins full. absurd inside.inside;
}
inside_reads (suc levels) = record {
  takes = λ fills p bs x fits e. nested_takes (IsItems levels) (inside_at levels) (inside_reads levels)
      (suc levels) fills p bs x fits e;
  full = λ p bs x e. nested_full (inside_at levels) (suc levels) p bs x e;
  again = λ fills p bs is n inside begins full. nested_again (IsItems levels) (inside_at levels) (inside_reads levels)
      (suc levels) fills p bs is n (omega arith) inside begins full;
}

-- ---- the document at the front, and all of the bytes

-- the stated length of a document that was read
record TotalRead (bs : List ℕ) (n : ℕ) : Type 0 where
  head : Begins bs (to_le_bytes w32 n) 4
  least : 5 ≤ n
  small : n < 2 ^ 31
  short : n ≤ length bs

total_takes : (bs : List ℕ) (n : ℕ) → AreBytes bs → total_at bs ≡ Ok n → TotalRead bs n
unfolding total_at
total_takes bs n fits e =
    let a = bind_ok (int32_at 0 bs) _ n e in
    let b = bind_ok (stated_at a.value) _ n a.then in
    let g = chose_ok (signed_below a.value 5) _ a.value b.value b.first in
    let signs = neither (ltb a.value 5) (leb (2 ^ 31) a.value) g.0 in
    let c = bind_ok (fault_if (ltb (length bs) b.value) _ (length bs)) _ n b.then in
    let long : b.value ≤ length bs = ltb-false _ _ (none_if _ _ _ _ c.first) in
    let low : 5 ≤ a.value = ltb-false _ _ signs.0 in
    let small : a.value < 2 ^ 31 = leb-false _ _ signs.1 in
    let same : a.value ≡ b.value = g.1 in
    let is : b.value ≡ n = ok_is b.value n c.then in
    let head : Begins bs (to_le_bytes w32 n) 4 = subst (λ (m : ℕ). Begins bs (to_le_bytes w32 m) 4) (same ∙ is)
    (number_takes 0 bs a.value fits a.first) in
    record { head = head; least = omega arith; small = omega arith; short = omega arith }

total_again : (bs : List ℕ) (n : ℕ) → 5 ≤ n → n < 2 ^ 31 → n ≤ length bs → Begins bs (to_le_bytes w32 n) 4
    → total_at bs ≡ Ok n
unfolding total_at
total_again bs n least small short head =
    let a : int32_at 0 bs ≡ Ok n = number_again 0 bs n (omega arith) head in
    let b : ltb n 5 ≡ false = le-ltb _ _ least in
    let c : leb (2 ^ 31) n ≡ false = lt-leb _ _ small in
    let d : ltb (length bs) n ≡ false = le-ltb _ _ short in
    rw (a, b, c, d) refl

-- the document at the front is one that the grammar has, and the bytes begin with its spelling
pub record DocumentRead (bs : List ℕ) (x : Items × ℕ) : Type 0 where
  pub doc : IsDoc x.0
  pub parts : Begins bs (doc_bytes x.0) x.1

pub front_takes : (bs : List ℕ) (x : Items × ℕ) → AreBytes bs → front_document bs ≡ Ok x → DocumentRead bs x
unfolding front_document
front_takes bs x fits e =
    let a = bind_ok (total_at bs) _ x e in
    let total = total_takes bs a.value fits a.first in
    let read = framed_takes (IsItems (level_limit - 1)) (inside_at (level_limit - 1))
    (inside_reads (level_limit - 1)) a.value 0 bs x fits total.least total.short total.head a.then in
    record {
      doc = record { inside = read.elements; fits = omega (arith, read.parts.size, read.size, total.small) };
      parts = read.parts;
    }

pub front_again : (bs : List ℕ) (is : Items) (n : ℕ) → IsDoc is → Begins bs (doc_bytes is) n
    → front_document bs ≡ Ok (is, n)
unfolding front_document
front_again bs is n doc begins =
    let elements = items_bytes is in
    let size : length elements + 5 ≡ n = sym (framed_size elements) ∙ begins.size in
    let head : Begins bs (to_le_bytes w32 (length elements + 5)) 4 =
    begins_first bs (to_le_bytes w32 (length elements + 5)) (elements ++ 0 ∷ []) n begins in
    let stated : Begins bs (to_le_bytes w32 n) 4 = subst (λ (m : ℕ). Begins bs (to_le_bytes w32 m) 4) size head in
    let small : n < 2 ^ 31 = omega (arith, doc.fits, begins.size) in
    let a : total_at bs ≡ Ok n = total_again bs n (omega (arith, size)) small (begins_fits bs _ n begins) stated in
    let b : framed_at (inside_at (level_limit - 1)) n 0 bs ≡ Ok (is, n) =
    framed_again (IsItems (level_limit - 1)) (inside_at (level_limit - 1))
    (inside_reads (level_limit - 1)) 0 bs is n doc.inside begins in
    rw (a, b) refl

-- the bytes are the spelling of a document that the grammar has
pub record WholeRead (bs : List ℕ) (is : Items) : Type 0 where
  pub doc : IsDoc is
  pub parts : bs ≡ doc_bytes is

-- a front that is all of the bytes
front_is_all : (bs : List ℕ) (x : Items × ℕ) (n : ℕ) → total_at bs ≡ Ok n → front_document bs ≡ Ok x → n ≡ x.1
unfolding front_document framed_at
front_is_all bs x n e f =
    let a = bind_ok (total_at bs) _ x f in
    let same : n ≡ a.value = ok_is n a.value (sym e ∙ a.first) in
    let b = bind_ok (elements_at (inside_at (level_limit - 1)) 4 (take (a.value - 5) (drop 4 bs))) _ x a.then in
    let c = bind_ok (zero_at (a.value - 1) 0 bs) _ x b.then in
    same ∙ ap (λ (y : Items × ℕ). y.1) (ok_is (b.value, a.value) x c.then)

pub document_takes : (bs : List ℕ) (is : Items) → AreBytes bs → document bs ≡ Ok is → WholeRead bs is
unfolding document
document_takes bs is fits e =
    let a = bind_ok (total_at bs) _ is e in
    let b = bind_ok (fault_if (ltb a.value (length bs)) _ a.value) _ is a.then in
    let c = bind_ok (front_document bs) _ is b.then in
    let all : length bs ≤ a.value = ltb-false _ _ (none_if _ _ _ _ b.first) in
    let width : a.value ≡ c.value.1 = front_is_all bs c.value a.value a.first c.first in
    let read = front_takes bs c.value fits c.first in
    let nothing : drop c.value.1 bs ≡ [] = nil_from_length _ (omega (arith, length-drop c.value.1 bs)) in
    let whole : bs ≡ doc_bytes c.value.0 = read.parts.parts
    ∙ ap (λ (rest : List ℕ). doc_bytes c.value.0 ++ rest) nothing ∙ append-nil (doc_bytes c.value.0) in
    subst (λ (js : Items). WholeRead bs js) (ok_is c.value.0 is c.then) (record { doc = read.doc; parts = whole })

pub document_again : (bs : List ℕ) (is : Items) → IsDoc is → bs ≡ doc_bytes is → document bs ≡ Ok is
unfolding document
document_again bs is doc e =
    let elements = items_bytes is in
    let n : ℕ = length (doc_bytes is) in
    let begins : Begins bs (doc_bytes is) n = subst (λ (x : List ℕ). Begins x (doc_bytes is) n)
    (append-nil (doc_bytes is) ∙ sym e) (begins_of (doc_bytes is) []) in
    let size : length elements + 5 ≡ n = sym (framed_size elements) in
    let head : Begins bs (to_le_bytes w32 (length elements + 5)) 4 =
    begins_first bs (to_le_bytes w32 (length elements + 5)) (elements ++ 0 ∷ []) n begins in
    let stated : Begins bs (to_le_bytes w32 n) 4 = subst (λ (m : ℕ). Begins bs (to_le_bytes w32 m) 4) size head in
    let all : length bs ≡ n = ap length e in
    let a : total_at bs ≡ Ok n = total_again bs n (omega (arith, size)) doc.fits (omega (arith, all)) stated in
    let b : ltb n (length bs) ≡ false = le-ltb _ _ (omega (arith, all)) in
    let c : front_document bs ≡ Ok (is, n) = front_again bs is n doc begins in
    rw (a, b, c) refl
