-- What was written while a part of a document was spliced
use Rattle.std.specs.Prelude.{◌≡◌, ℕ, ◌+◌, ◌≤◌, Option, Result, Ok, Err, List, ◌∷◌, ◌++◌, length, take}
use Rattle.bson_tree.specs.Tree.{Items, item, items_size, no_items}
use Rattle.bson_tree.specs.Spelling.{items_bytes, doc_bytes}
use Rattle.bson_codec.specs.Borrowed.{At, Elem}
use Rattle.bson_codec.specs.Elements.{TakesElement}
use Rattle.bson_splice.specs.declared.putter.Stopped.{Stopped}
use Rattle.bson_splice.specs.Spans.{Span, Fits, AreFits, Runs}
use Rattle.bson_splice.specs.Splices.{Put, left_in, left, spliced_in, spliced}

-- the bytes that an element becomes
abbrev pub element_made : Elem → List Put → List ℕ
element_made e ps = items_bytes (item e.name (spliced_in e.start ps e.tree) no_items)

-- the bytes that elements become, the first of which begins at this offset
abbrev pub elements_made : ℕ → Items → List Put → List ℕ
elements_made at is ps = items_bytes (spliced at ps is)

-- the bytes that a document becomes
abbrev pub document_made : At → List Put → List ℕ
document_made d ps = doc_bytes (spliced (d.start + 4) ps d.tree)

-- what is left to be put in behind an element
abbrev pub element_left : Elem → List Put → List Put
element_left e ps = left_in e.start ps e.tree

-- what is left to be put in behind elements, the first of which begins at this offset
abbrev pub elements_left : ℕ → Items → List Put → List Put
elements_left at is ps = left at ps is

-- what is left to be put in behind a document
abbrev pub document_left : At → List Put → List Put
document_left d ps = left (d.start + 4) ps d.tree

-- there is room behind `at`, whatever takes the places
abbrev pub HasRoom : List Span → (List Put → List ℕ) → ℕ → ℕ → Type 0
HasRoom ss made at size = (ps : List Put) → AreFits ss ps → at + length (made ps) ≤ size

-- one more was put in: it takes the next place, and the element was written with it
pub record PutsOne {S : Type 0} (step : S → S → Put → Type 0) (spans : S → List Span)
    (e : Elem) (before after : S) (old new : List ℕ) (at end : ℕ) : Type 0 where
  pub it : Put
  pub span : Span
  pub did : step before after it
  pub next : spans before ≡ span ∷ spans after
  pub fits : Fits span it
  pub written : take end new ≡ take at old ++ items_bytes (item e.name (it.value e.tree) no_items)
  pub within : end ≤ length new

-- what the answer for one place tells: an end, and its new value was put in; or a stop, and none was
abbrev pub TellsPut : {S : Type 0} → (S → S → Put → Type 0) → (S → S → Type 0) → (S → List Span)
    → Elem → S → S → List ℕ → List ℕ → ℕ → Result ℕ Stopped → Type 0
TellsPut step stops spans e before after old new at (Ok end) = PutsOne step spans e before after old new at end
TellsPut step stops spans e before after old new at (Err _) = stops before after

-- elements at the front were written as they stand, then one was taken, if there was one, and `rest` is left: whatever
-- takes the places, what was written and what is left from that one on become what all become
pub record PutsBefore (ss : List Span) (here : At) (met : Option Elem) (rest : At) (old new : List ℕ)
    (at end : ℕ) : Type 0 where
  pub mid : At
  pub taken : TakesElement mid met rest
  pub made : (ps : List Put) → AreFits ss ps
      → take end new ++ elements_made mid.start mid.tree ps ≡ take at old ++ elements_made here.start here.tree ps
  pub left : (ps : List Put) → AreFits ss ps
      → elements_left mid.start mid.tree ps ≡ elements_left here.start here.tree ps
  pub fewer : items_size mid.tree ≤ items_size here.tree
  pub within : end ≤ length new

-- these were put in; whatever takes the places behind theirs, `made` of all was written behind `at`, and `rests` of
-- all are left
pub record Splices {S : Type 0} (step : S → S → Put → Type 0) (spans : S → List Span)
    (made : List Put → List ℕ) (rests : List Put → List Put)
    (before after : S) (old new : List ℕ) (at end : ℕ) : Type 0 where
  pub puts : List Put
  pub runs : Runs step before after puts
  pub fits : (rest : List Put) → AreFits (spans after) rest → AreFits (spans before) (puts ++ rest)
  pub written : (rest : List Put) → AreFits (spans after) rest → take end new ≡ take at old ++ made (puts ++ rest)
  pub left : (rest : List Put) → AreFits (spans after) rest → rests (puts ++ rest) ≡ rest

-- these were put in, and the next one was refused
pub record Stops {S : Type 0} (step : S → S → Put → Type 0) (stops : S → S → Type 0) (before after : S) : Type 0 where
  pub puts : List Put
  pub mid : S
  pub runs : Runs step before mid puts
  pub stop : stops mid after

-- what the answer for a part tells: an end, and all of its places have theirs; or a stop, and some have
abbrev pub TellsSplices : {S : Type 0} → (S → S → Put → Type 0) → (S → S → Type 0) → (S → List Span)
    → (List Put → List ℕ) → (List Put → List Put) → S → S → List ℕ → List ℕ → ℕ → Result ℕ Stopped → Type 0
TellsSplices step stops spans made rests before after old new at (Ok end) =
    Splices step spans made rests before after old new at end
TellsSplices step stops spans made rests before after old new at (Err _) = Stops step stops before after

-- where what was put ends
abbrev pub EndsWithin : ℕ → Result ℕ Stopped → Type 0
EndsWithin size (Ok end) = end ≤ size
EndsWithin size (Err _) = Unit {0}
