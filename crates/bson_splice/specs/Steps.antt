-- What becomes of an element, by the next value whose place is taken
use Rattle.std.specs.Prelude.{◌≡◌, ◌+◌, ◌<◌, ◌≤◌, ℕ, List, length, Option, Some, None}
use Rattle.bson_tree.specs.Tree.{Tree, leaf, node, tag_of}
use Rattle.bson_tree.specs.Spelling.{value_bytes}
use Rattle.bson_codec.specs.Borrowed.{Elem}
use Rattle.bson_splice.specs.declared.step.Step.{Step}
use Rattle.bson_splice.specs.declared.step.Step.TheVariants as steps
use Rattle.bson_splice.specs.Spans.{Span, IsNextAt}
use Rattle.bson_splice.specs.Splices.{Put, left, left_in, spliced, spliced_in}

-- the next place, if there is one, is not that of a value which begins at `at`, and stands behind it where the value is
-- a document or an array
abbrev pub IsAside : Option ℕ → ℕ → Tree → Type 0
IsAside None at t = Unit {0}
IsAside (Some next) at (leaf tag bytes) = next ≡ at → ⊥
IsAside (Some next) at (node tag is) = (next ≡ at → ⊥) × (at + length (value_bytes (node tag is)) ≤ next)

-- the next place is not that of a value which begins at `at`, and begins before the value ends
abbrev pub IsInside : Option ℕ → ℕ → Tree → Type 0
IsInside None at t = ⊥
IsInside (Some next) at t = (next ≡ at → ⊥) × (next < at + length (value_bytes t))

-- by where the next place begins: it isn't here; or it is the value's own; or it is inside this document or array
abbrev pub StepsBy : Option ℕ → Elem → Step → Type 0
StepsBy next e steps.Keep = IsAside next e.start e.tree
StepsBy next e steps.Put = next ≡ Some e.start
StepsBy next e (steps.Open document) =
    (e.tree ≡ node (tag_of e.tree) document.tree)
    × (e.start ≡ document.start)
    × IsInside next e.start e.tree

-- it stays; or its value's place is taken; or it is a document or an array, and a place inside it is taken
abbrev pub StepsAs : Elem → List Put → Step → Type 0
StepsAs e ps steps.Keep = (spliced_in e.start ps e.tree ≡ e.tree) × (left_in e.start ps e.tree ≡ ps)
StepsAs e ps steps.Put = Unit {0}
StepsAs e ps (steps.Open document) =
    (e.tree ≡ node (tag_of e.tree) document.tree)
    × (e.start ≡ document.start)
    × (spliced_in e.start ps e.tree ≡ node (tag_of e.tree) (spliced (document.start + 4) ps document.tree))
    × (left_in e.start ps e.tree ≡ left (document.start + 4) ps document.tree)

-- the next place that is taken is the value's own
abbrev pub IsOwn : List Span → Elem → Step → Type 0
IsOwn ss e steps.Put = IsNextAt ss e.start
IsOwn ss e _ = Unit {0}
