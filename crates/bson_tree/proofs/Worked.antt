-- The definitions on one small document, {a: [x, {b: y}], c: z}, by computation.
use Rattle.std.proofs.Common.{◌≡◌, [], ◌∷◌, refl}
use Rattle.std.specs.Prelude.{Some, None}
use Rattle.bson_tree.specs.Tree.{Items, leaf, node, no_items, item}
use Rattle.bson_tree.specs.Places.{places, value_at, start_of}
use Rattle.bson_tree.specs.Spelling.{doc_bytes}
use Rattle.bson_tree.specs.Filled.{filled, entry_at}

-- {a: [true, {b: null}], c: false}
abbrev pub small : Items
small =
    item
    (97 ∷ [])
    (node 4 (item (48 ∷ []) (leaf 8 (1 ∷ [])) (item (49 ∷ [])
    (node 3 (item (98 ∷ []) (leaf 10 []) no_items)) no_items)))
    (item (99 ∷ []) (leaf 8 (0 ∷ [])) no_items)

-- the document itself, the array, its two values with the inner one, and the last element
pub places_are : places small ≡ [] ∷ (0 ∷ []) ∷ (0 ∷ 0 ∷ []) ∷ (0 ∷ 1 ∷ []) ∷ (0 ∷ 1 ∷ 0 ∷ []) ∷ (1 ∷ []) ∷ []
places_are = refl

pub value_is : value_at (0 ∷ 1 ∷ 0 ∷ []) small ≡ Some (leaf 10 [])
value_is = refl

pub raw_has_no_place : value_at (1 ∷ 0 ∷ []) small ≡ None
raw_has_no_place = refl

-- BSON 1.1: 4 bytes of length, then type, name, 00 and value of each element
pub bytes_are : doc_bytes small
    ≡ 32 ∷ 0 ∷ 0 ∷ 0 ∷ 4 ∷ 97 ∷ 0 ∷ 20 ∷ 0 ∷ 0 ∷ 0 ∷ 8 ∷ 48 ∷ 0 ∷ 1 ∷ 3 ∷ 49 ∷ 0 ∷ 8 ∷ 0 ∷ 0 ∷ 0 ∷ 10 ∷ 98 ∷ 0 ∷ 0 ∷ 0
    ∷ 8 ∷ 99 ∷ 0 ∷ 0 ∷ 0 ∷ []
bytes_are = refl

pub start_is : start_of (0 ∷ 1 ∷ 0 ∷ []) small ≡ Some 25
start_is = refl

pub filled_is : filled (entry_at (((0 ∷ 1 ∷ []), leaf 8 (0 ∷ [])) ∷ [])) small
    ≡ item
    (97 ∷ [])
    (node 4 (item (48 ∷ []) (leaf 8 (1 ∷ [])) (item (49 ∷ []) (leaf 8 (0 ∷ [])) no_items)))
    (item (99 ∷ []) (leaf 8 (0 ∷ [])) no_items)
filled_is = refl
