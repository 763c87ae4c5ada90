-- Documents with values put in at some places, by the places and by the offsets where values begin.
-- Where a place of the map lies below another one, the outer one counts.
use Rattle.std.specs.Prelude.{◌+◌, ℕ, List, [], ◌∷◌, length, Option, Some, None, unwrap_or, bytes_eq, if◌then◌else◌}
use Rattle.bson_tree.specs.Tree.{Tree, Items, leaf, node, no_items, item}
use Rattle.bson_tree.specs.Spelling.{value_bytes}

-- the value that a finite map, a list of places with values, has at a place
abbrev pub entry_at : List (List ℕ × Tree) → List ℕ → Option Tree
entry_at [] place = None
entry_at (entry ∷ entries) place = if bytes_eq entry.0 place then Some entry.1 else entry_at entries place

-- a value with f's value, type byte included, at each place of f
abbrev mutual
  pub filled_in : (List ℕ → Option Tree) → Tree → Tree
  filled_in f (leaf tag bytes) = unwrap_or (f []) (leaf tag bytes)
  filled_in f (node tag is) = unwrap_or (f []) (node tag (filled_from f 0 is))

  -- the same for values whose first child has number i
  pub filled_from : (List ℕ → Option Tree) → ℕ → Items → Items
  filled_from f i no_items = no_items
  filled_from f i (item name t is) = item name (filled_in (λ place. f (i ∷ place)) t) (filled_from f (i + 1) is)

-- a document with f's value at each place of f
abbrev pub filled : (List ℕ → Option Tree) → Items → Items
filled f is = filled_from f 0 is

-- the same by offsets: a value that begins at `at`, with f's value, type byte included, in place of each value for
-- which f has one. f knows the offset at which a value begins, and the value
abbrev mutual
  pub fill_tree : (ℕ → Tree → Option Tree) → ℕ → Tree → Tree
  fill_tree f at (leaf tag bytes) = unwrap_or (f at (leaf tag bytes)) (leaf tag bytes)
  fill_tree f at (node tag is) = unwrap_or (f at (node tag is)) (node tag (fill_items f (at + 4) is))

  -- the same for elements that begin at `at`
  pub fill_items : (ℕ → Tree → Option Tree) → ℕ → Items → Items
  fill_items f at no_items = no_items
  fill_items f at (item name t is) =
      item
      name
      (fill_tree f (at + (2 + length name)) t)
      (fill_items f (at + (2 + length name) + length (value_bytes t)) is)
