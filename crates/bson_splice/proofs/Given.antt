-- Values given by offsets, and how long they make a document.
use Rattle.std.proofs.Common.{◌≡◌, ◌∙◌, ℕ, ◌+◌, ◌-◌, ◌≤◌, List, [], ◌∷◌, ◌++◌, length, take, refl, sym, ap, subst}
use Rattle.std.proofs.Common.{arith, append_assoc, ◌<◌}
use Rattle.std.proofs.lemmas.List.{append-nil}
use Rattle.std.proofs.Math.Seq.{take-length}
use Rattle.bson_tree.specs.Tree.{Items, leaf, item, no_items}
use Rattle.bson_tree.specs.Spelling.{doc_bytes, items_bytes}
use Rattle.bson_tree.proofs.Sizes.{framed_size}
use Rattle.bson_codec.specs.Borrowed.{At}
use Rattle.bson_splice.specs.declared.values.NewValue.{NewValue}
use Rattle.bson_splice.specs.Spans.{AreFits, Runs}
use Rattle.bson_splice.specs.Splices.{Put, spliced}
use Rattle.bson_splice.specs.Takes.{Takes, Trades, Caps}
use Rattle.bson_splice.specs.Values.{put_of, puts_of, spans_of, removed, given, PutsNext}
use Rattle.bson_splice.specs.Whole.{HasRoomFor, StandsAt, replaced}
use Rattle.bson_splice.proofs.Refits.{refit}
use Rattle.bson_splice.proofs.Splices.{spliced_items}

pub fit : (vs : List NewValue) → AreFits (spans_of vs) (puts_of vs)
fit [] = tt
fit (v ∷ vs) = (record { start = refl; end = refl; size = λ t. omega arith }, fit vs)

trades : (vs : List NewValue) → Trades (puts_of vs) (removed vs) (given vs)
trades [] = (refl, refl)
trades (v ∷ vs) = (
  v.end - v.start,
  length v.bytes.now,
  removed vs,
  given vs,
  refl,
  refl,
  λ t e. omega (arith, e),
  trades vs,
)

caps : (vs : List NewValue) (ps : List Put) → AreFits (spans_of vs) ps → Caps ps (removed vs) (given vs)
caps [] [] f = (refl, refl)
caps [] (p ∷ ps) f = absurd f
caps (v ∷ vs) [] f = absurd f
caps (v ∷ vs) (p ∷ ps) f = (
  v.end - v.start,
  length v.bytes.now,
  removed vs,
  given vs,
  refl,
  refl,
  λ t e. omega (arith, e, f.0.start, f.0.end, f.0.size t),
  caps vs ps f.1,
)

-- empty values in the same places
abbrev empty : NewValue → Put
empty v = record { start = v.start; end = v.end; value = λ t. leaf 0 [] }

abbrev empties : List NewValue → List Put
empties [] = []
empties (v ∷ vs) = empty v ∷ empties vs

empties_fit : (vs : List NewValue) → AreFits (spans_of vs) (empties vs)
empties_fit [] = tt
empties_fit (v ∷ vs) = (record { start = refl; end = refl; size = λ t. omega arith }, empties_fit vs)

empties_trade : (vs : List NewValue) → Trades (empties vs) (removed vs) 0
empties_trade [] = (refl, refl)
empties_trade (v ∷ vs) = (v.end - v.start, 0, removed vs, 0, refl, refl, λ t e. omega (arith, e), empties_trade vs)

module _ (vs : List NewValue) (d : At) (taken : Takes (d.start + 4) d.tree (puts_of vs) []) where
  pub stands : StandsAt (spans_of vs) d
  stands ps f = refit (d.start + 4) d.tree (spans_of vs) (puts_of vs) ps taken (fit vs) f

  pub size_is : length (doc_bytes (replaced (puts_of vs) d)) + removed vs ≡ length (doc_bytes d.tree) + given vs
  size_is =
      let s = spliced_items taken tt in
      let i = s.size (removed vs) (given vs) (trades vs) in
      let js = spliced (d.start + 4) (puts_of vs) d.tree in
      let k : i.0 ≡ 0 = i.2.0 in
      let l : i.1 ≡ 0 = i.2.1 in
      let made : length (doc_bytes js) ≡ length (doc_bytes (replaced (puts_of vs) d)) =
      ap (λ (is : Items). length (doc_bytes is)) s.made in
      omega (arith, i.3, k, l, made, framed_size (items_bytes js), framed_size (items_bytes d.tree))

  pub removed_less : removed vs ≤ length (doc_bytes d.tree)
  removed_less =
      let s = spliced_items (stands (empties vs) (empties_fit vs)) tt in
      let i = s.size (removed vs) 0 (empties_trade vs) in
      let k : i.0 ≡ 0 = i.2.0 in
      let l : i.1 ≡ 0 = i.2.1 in
      omega (arith, i.3, k, l, framed_size (items_bytes d.tree))

  pub room : HasRoomFor (spans_of vs) d (length (doc_bytes (replaced (puts_of vs) d)))
  room ps f =
      let s = spliced_items (stands ps f) tt in
      let i = s.most (removed vs) (given vs) (caps vs ps f) in
      let js = spliced (d.start + 4) ps d.tree in
      let k : i.0 ≡ 0 = i.2.0 in
      let l : i.1 ≡ 0 = i.2.1 in
      let made : length (doc_bytes js) ≡ length (doc_bytes (replaced ps d)) =
      ap (λ (is : Items). length (doc_bytes is)) s.made in
      omega (arith, i.3, k, l, made, size_is, framed_size (items_bytes js), framed_size (items_bytes d.tree))

no_values : (vs : List NewValue) → spans_of vs ≡ [] → puts_of vs ≡ []
no_values [] e = refl
no_values (v ∷ vs) e = absurd cc

module _ {S : Type 0} (left : S → List NewValue) where
  -- all were put in, in their order
  pub all_put : (a b : S) (ps : List Put) → Runs (λ x y p. PutsNext (left x) (left y) p) a b ps → spans_of (left b) ≡ []
      → ps ≡ puts_of (left a)
  all_put a b [] same none = sym (no_values (left a) (subst (λ (s : S). spans_of (left s) ≡ []) (sym same) none))
  all_put a b (p ∷ ps) runs none =
      let one = runs.1 in
      let more : ps ≡ puts_of (left runs.0) = all_put runs.0 b ps runs.2 none in
      let first : puts_of (left a) ≡ put_of one.0 ∷ puts_of (left runs.0) = ap puts_of one.1 in
      let head : p ≡ put_of one.0 = one.2 in
      ap (λ (q : Put). q ∷ ps) head ∙ ap (λ (qs : List Put). put_of one.0 ∷ qs) more ∙ sym first

-- an element with its new value
pub one_value : (front name : List ℕ) (tag : ℕ) (bytes now : List ℕ) → now ≡ front ++ (tag ∷ (name ++ 0 ∷ []))
    → now ++ bytes ≡ front ++ items_bytes (item name (leaf tag bytes) no_items)
one_value front name tag bytes now e =
    let one : (front ++ (tag ∷ (name ++ 0 ∷ []))) ++ bytes
    ≡ front ++ items_bytes (item name (leaf tag bytes) no_items) = simp (append_assoc, append-nil) in
    ap (λ (x : List ℕ). x ++ bytes) e ∙ one

-- the length from the sums
module _ (vs : List NewValue) (d : At) (taken : Takes (d.start + 4) d.tree (puts_of vs) []) (bytes r g : ℕ)
    (long : bytes ≡ length (doc_bytes d.tree)) (less : r ≡ removed vs) (more : g ≡ given vs) where
  pub enough : r ≤ bytes + g
  enough = omega (arith, long, less, removed_less vs d taken)

  pub sum_is : bytes + g - r ≡ length (doc_bytes (replaced (puts_of vs) d))
  sum_is = omega (arith, long, less, more, size_is vs d taken)

-- what was written is the document with the values
pub whole_is : (vs : List NewValue) (d : At) (ps : List Put) (end : ℕ) (new : List ℕ) → ps ≡ puts_of vs
    → take end new ≡ doc_bytes (replaced ps d) → end ≡ length (doc_bytes (replaced ps d))
    → length new ≡ length (doc_bytes (replaced (puts_of vs) d))
    → new ≡ doc_bytes (replaced (puts_of vs) d)
whole_is vs d ps end new all written size long =
    let same : length (doc_bytes (replaced ps d)) ≡ length (doc_bytes (replaced (puts_of vs) d)) =
    ap (λ (qs : List Put). length (doc_bytes (replaced qs d))) all in
    let here : length new ≡ end = long ∙ sym (size ∙ same) in
    sym (take-length new) ∙ ap (λ (n : ℕ). take n new) here ∙ written
    ∙ ap (λ (qs : List Put). doc_bytes (replaced qs d)) all

-- the length against a limit
pub over : (limit n m : ℕ) → n ≡ m → limit < n → limit < m
over limit n m e h = omega (arith, e, h)

pub within : (limit n m : ℕ) → n ≡ m → n ≤ limit → m ≤ limit
within limit n m e h = omega (arith, e, h)
