-- Elements one behind the other.
use Rattle.std.proofs.Common.{◌≡◌, ℕ, List, ◌++◌, append_assoc}
use Rattle.bson_tree.specs.Tree.{Tree, Items, no_items, item}
use Rattle.bson_tree.specs.Spelling.{items_bytes}

-- one element, and those behind it
pub one_item : (name : List ℕ) (t : Tree) (is : Items)
    → items_bytes (item name t is) ≡ items_bytes (item name t no_items) ++ items_bytes is
one_item name t is = simp append_assoc
