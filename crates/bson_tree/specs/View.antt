-- The trees that the program's own types hold.
use Rattle.std.specs.Prelude.{ℕ, List, [], ◌∷◌}
use Rattle.bson_tree.specs.declared.tree.Body.{Body}
use Rattle.bson_tree.specs.declared.tree.Body.TheVariants as body
use Rattle.bson_tree.specs.declared.tree.Value.{Value}
use Rattle.bson_tree.specs.Tree.{Tree, Items, leaf, node, no_items, item}

abbrev pub body_tree : ℕ → Body → Tree
body_tree tag (body.Raw bytes) = leaf tag bytes
body_tree tag (body.Kids is) = node tag is

-- the tree that a value holds
abbrev pub tree : Value → Tree
tree v = body_tree v.tag v.body

-- the elements that a list of names with values holds
abbrev pub items_of : List (List ℕ × Value) → Items
items_of [] = no_items
items_of (pair ∷ pairs) = item pair.0 (tree pair.1) (items_of pairs)
