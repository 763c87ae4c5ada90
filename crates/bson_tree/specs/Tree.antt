-- BSON 1.1, "document" and "element": the trees that documents spell.
-- The children of a tree are a list of their own, `Items`, and `join`, `count`, `nth`, `after` are its list functions.
use Rattle.std.specs.Prelude.{◌+◌, ℕ, zero, suc, List, Option, Some, None}

-- a value: a type byte with raw bytes, or a type byte with named values (embedded document and array)
-- a document: its named values in order
mutual
  pub data Tree : Type 0 where
    leaf : ℕ → List ℕ → Tree
    node : ℕ → Items → Tree

  pub data Items : Type 0 where
    no_items : Items
    item : List ℕ → Tree → Items → Items

-- the type byte of a value
abbrev pub tag_of : Tree → ℕ
tag_of (leaf tag bytes) = tag
tag_of (node tag is) = tag

-- the named values inside a value; none in a raw one
abbrev pub kids_of : Tree → Items
kids_of (leaf tag bytes) = no_items
kids_of (node tag is) = is

-- the number of values of a tree, itself and the ends of lists included; a measure of recursions
abbrev mutual
  pub tree_size : Tree → ℕ
  tree_size (leaf tag bytes) = 1
  tree_size (node tag is) = items_size is + 1

  pub items_size : Items → ℕ
  items_size no_items = 1
  items_size (item name t is) = tree_size t + items_size is + 1

-- the number of children
abbrev pub count : Items → ℕ
count no_items = 0
count (item name t is) = count is + 1

-- one list of named values after another
abbrev pub join : Items → Items → Items
join no_items js = js
join (item name t is) js = item name t (join is js)

-- the children from number i on
abbrev pub after : ℕ → Items → Items
after zero is = is
after (suc i) no_items = no_items
after (suc i) (item name t is) = after i is

-- the name of the first child
abbrev pub first_name : Items → Option (List ℕ)
first_name no_items = None
first_name (item name t is) = Some name

-- the value of the first child
abbrev pub first_value : Items → Option Tree
first_value no_items = None
first_value (item name t is) = Some t

-- the name of child number i, from 0
abbrev pub name_at : ℕ → Items → Option (List ℕ)
name_at i is = first_name (after i is)

-- the value of child number i, from 0
abbrev pub nth : ℕ → Items → Option Tree
nth i is = first_value (after i is)
