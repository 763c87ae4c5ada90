-- BSON 1.1, the grammar: the bytes that spell a value, a list of elements, a document.
use Rattle.std.specs.Prelude.{◌+◌, ℕ, List, [], ◌∷◌, ◌++◌, length}
use Rattle.std.specs.Int.{to_le_bytes, w32}
use Rattle.bson_tree.specs.Tree.{Tree, Items, leaf, node, no_items, item, tag_of}

-- BSON 1.1, "document": int32 total length, elements, 00
abbrev pub framed : List ℕ → List ℕ
framed elements = to_le_bytes w32 (length elements + 5) ++ (elements ++ 0 ∷ [])

-- BSON 1.1, "element": a value's bytes, and each element as type byte, name, 00, value
abbrev mutual
  pub value_bytes : Tree → List ℕ
  value_bytes (leaf tag bytes) = bytes
  value_bytes (node tag is) = framed (items_bytes is)

  pub items_bytes : Items → List ℕ
  items_bytes no_items = []
  items_bytes (item name t is) = tag_of t ∷ (name ++ (0 ∷ (value_bytes t ++ items_bytes is)))

-- BSON 1.1, "document": the bytes of a document
abbrev pub doc_bytes : Items → List ℕ
doc_bytes is = framed (items_bytes is)
