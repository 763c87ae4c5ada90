-- The lengths of spellings.
use Rattle.std.proofs.Common.{◌≡◌, ℕ, ◌+◌, List, [], ◌∷◌, ◌++◌, length, arith, length-append}
use Rattle.bson_tree.specs.Tree.{Tree, Items, item}
use Rattle.bson_tree.specs.Spelling.{framed, value_bytes, items_bytes}

-- a document has 5 bytes more than its elements
pub framed_size : (elements : List ℕ) → length (framed elements) ≡ length elements + 5
framed_size elements = omega (arith, length-append elements (0 ∷ []))

-- an element has its type byte, its name, 00 and its value
pub element_size : (name : List ℕ) (t : Tree) (is : Items)
    → length (items_bytes (item name t is)) ≡ length name + 2 + length (value_bytes t) + length (items_bytes is)
element_size name t is =
    omega (
      arith,
      length-append name (0 ∷ (value_bytes t ++ items_bytes is)),
      length-append (value_bytes t) (items_bytes is),
    )
