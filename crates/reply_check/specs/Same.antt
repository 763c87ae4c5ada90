-- BSON 1.1: whether two documents are equal, value by value
use Rattle.std.specs.Prelude.{Bool, true, false, ◌&&◌, ◌==◌, bytes_eq}
use Rattle.bson_tree.specs.Tree.{Tree, Items, leaf, node, no_items, item}

-- two values are equal: of one type, with the same bytes or the same elements
abbrev mutual
  pub is_same_tree : Tree → Tree → Bool
  is_same_tree (leaf tag bytes) (leaf kind other) = (tag == kind) && bytes_eq bytes other
  is_same_tree (leaf tag bytes) (node kind js) = false
  is_same_tree (node tag is) (leaf kind other) = false
  is_same_tree (node tag is) (node kind js) = (tag == kind) && is_same is js

  -- the same of elements, in order, with their names
  pub is_same : Items → Items → Bool
  is_same no_items no_items = true
  is_same no_items (item n u js) = false
  is_same (item name t is) no_items = false
  is_same (item name t is) (item n u js) = bytes_eq name n && (is_same_tree t u && is_same is js)
