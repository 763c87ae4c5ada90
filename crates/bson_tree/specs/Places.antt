-- Places in a document: lists of child numbers from 0. The empty place is the document itself.
use Rattle.std.specs.Prelude.{◌+◌, ◌==◌, ℕ, zero, suc, Bool, false, List, [], ◌∷◌, ◌++◌, map, length, Option, Some}
use Rattle.std.specs.Prelude.{None, option_and_then, if◌then◌else◌}
use Rattle.std.specs.Option.{option_map_or}
use Rattle.bson_tree.specs.Tree.{Tree, Items, leaf, node, no_items, item, nth, kids_of}
use Rattle.bson_tree.specs.Spelling.{value_bytes}

-- the value at a place below a value; the empty place is the value itself
abbrev pub tree_at : List ℕ → Tree → Option Tree
tree_at [] t = Some t
tree_at (i ∷ place) t = option_and_then (tree_at place) (nth i (kids_of t))

-- the value at a place of a document; the empty place is no value
abbrev pub value_at : List ℕ → Items → Option Tree
value_at [] is = None
value_at (i ∷ place) is = option_and_then (tree_at place) (nth i is)

-- the places of a value and below it, in reading order: a value before its children
abbrev mutual
  pub places_in : Tree → List (List ℕ)
  places_in (leaf tag bytes) = [] ∷ []
  places_in (node tag is) = [] ∷ places_from 0 is

  -- the places of values whose first child has number i
  pub places_from : ℕ → Items → List (List ℕ)
  places_from i no_items = []
  places_from i (item name t is) = map (λ place. i ∷ place) (places_in t) ++ places_from (i + 1) is

-- all places of a document in reading order, the document first
abbrev pub places : Items → List (List ℕ)
places is = [] ∷ places_from 0 is

-- where the value at a place begins, in the bytes of a value that begins at `at`
abbrev mutual
  pub start_in : List ℕ → ℕ → Tree → Option ℕ
  start_in [] at t = Some at
  start_in (i ∷ place) at (leaf tag bytes) = None
  start_in (i ∷ place) at (node tag is) = start_from i place (at + 4) is

  -- the same among elements that begin at `at`, for the place below child number i
  pub start_from : ℕ → List ℕ → ℕ → Items → Option ℕ
  start_from i place at no_items = None
  start_from zero place at (item name t is) = start_in place (at + (2 + length name)) t
  start_from (suc i) place at (item name t is) = start_from i place (at + (2 + length name) + length (value_bytes t)) is

-- where the value at a place begins in the bytes of a document
abbrev pub start_of : List ℕ → Items → Option ℕ
start_of [] is = None
start_of (i ∷ place) is = start_from i place 4 is

-- the value at a place of a document begins at this offset
abbrev pub begins_at : ℕ → Items → List ℕ → Bool
begins_at at is place = option_map_or (λ start. start == at) (start_of place is) false

-- the first of these places that passes a test; the document itself where none does
abbrev pub first_place : (List ℕ → Bool) → List (List ℕ) → List ℕ
first_place test [] = []
first_place test (place ∷ others) = if test place then place else first_place test others

-- the place whose value begins at this offset of a document; the document itself where none does
unfoldable pub place_of : ℕ → Items → List ℕ
place_of at is = first_place (begins_at at is) (places is)
