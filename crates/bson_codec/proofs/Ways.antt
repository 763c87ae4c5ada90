-- The way down to an offset: the value that begins there, or the document or array that has it among its bytes.
use Rattle.std.specs.Prelude.{◌+◌, ℕ, ◌==◌, List, [], ◌∷◌, ◌++◌, length, Option, Some, None, option_map, if◌then◌else◌}
use Rattle.bson_tree.specs.Tree.{Tree, Items, leaf, node, no_items, item}
use Rattle.bson_tree.specs.Spelling.{value_bytes}
use Rattle.bson_codec.specs.Borrowed.{holds}

-- the place in a value that begins at `start` of what begins at `at`
abbrev mutual
  pub spot_in : ℕ → ℕ → Tree → Option (List ℕ)
  spot_in at start (leaf tag bytes) = if start == at then Some [] else None
  spot_in at start (node tag is) = if start == at then Some [] else spot_from at 0 (start + 4) is

  -- the same among elements from number i on that begin at `start`, by going into the first that holds `at`
  pub spot_from : ℕ → ℕ → ℕ → Items → Option (List ℕ)
  spot_from at i start no_items = None
  spot_from at i start (item name t is) =
      if holds at (record { name = name; tree = t; start = start + (2 + length name) })
      then option_map (λ place. i ∷ place) (spot_in at (start + (2 + length name)) t)
      else spot_from at (i + 1) (start + (2 + length name) + length (value_bytes t)) is

-- the place below `steps`; the document itself where there is none
abbrev pub below : List ℕ → Option (List ℕ) → List ℕ
below steps None = []
below steps (Some place) = steps ++ place
