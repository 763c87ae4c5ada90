-- What a document has to keep to: names without 00, and levels of nesting.
use Rattle.std.specs.Prelude.{ℕ, ◌+◌, ◌==◌, ◌&&◌, max, Bool, true, not, List, [], ◌∷◌}
use Rattle.bson_tree.specs.Tree.{Tree, Items, leaf, node, no_items, item}

-- no byte of the name is 00
abbrev pub has_no_zero : List ℕ → Bool
has_no_zero [] = true
has_no_zero (b ∷ bs) = not (b == 0) && has_no_zero bs

abbrev mutual
  pub is_named_tree : Tree → Bool
  is_named_tree (leaf tag bs) = true
  is_named_tree (node tag is) = is_named is

  -- no name in it has a 00
  pub is_named : Items → Bool
  is_named no_items = true
  is_named (item name t is) = has_no_zero name && (is_named_tree t && is_named is)

abbrev mutual
  -- how many levels a value adds to the document that holds it
  pub levels_of : Tree → ℕ
  levels_of (leaf tag bs) = 0
  levels_of (node tag is) = levels_in is

  -- how many levels a document has, its own included
  pub levels_in : Items → ℕ
  levels_in no_items = 1
  levels_in (item name t is) = max (levels_of t + 1) (levels_in is)
