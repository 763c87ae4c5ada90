-- Documents, their elements and lists of elements as they stand in bytes that were checked.
use Rattle.std.specs.Prelude.{◌≡◌, ◌-◌, ℕ, Bool, true, false, ◌||◌, ◌==◌, List, [], Result, Ok, Err, refl}
use Rattle.std.specs.Prelude.{if◌then◌else◌, ◌+◌, ◌&&◌, nat_lt, length, Option, Some, None}
use Rattle.std.specs.Coded.{Coded, code_by, coded×, coded_ℕ}
use Rattle.bson_tree.specs.Tree.{Tree, Items, leaf, node, no_items, item, tag_of}
use Rattle.bson_tree.specs.Spelling.{value_bytes, items_bytes, doc_bytes}
use Rattle.bson_tree.specs.Code.{coded_items}
use Rattle.bson_codec.specs.declared.fault.BsonFault.{BsonFault}
use Rattle.bson_codec.specs.Layout.{IsDoc, IsItems, IsValue, level_limit}
use Rattle.bson_codec.specs.Reading.{document, elements_at, inside_at}

-- a document, or elements that are left, and the offset of their first byte
pub record At : Type 0 where
  pub tree : Items
  pub start : ℕ

-- how the logic stores it: its elements, and the offset
abbrev pub coded_at : Coded At
coded_at = code_by (Items × ℕ) (coded× coded_items coded_ℕ) (λ a. (a.tree, a.start)) (λ p. record {
  tree = p.0;
  start = p.1;
}) (λ _. refl)

-- an element: its name, its value, and the offset of the value's first byte
pub record Elem : Type 0 where
  pub name : List ℕ
  pub tree : Tree
  pub start : ℕ

-- the name of a list's first element, as an element is stored
abbrev pub one_name : Items → List ℕ
one_name no_items = []
one_name (item name t is) = name

-- the value of a list's first element, as an element is stored
abbrev pub one_tree : Items → Tree
one_tree no_items = leaf 0 []
one_tree (item name t is) = t

-- how the logic stores it: a list of the element alone, and the offset
abbrev pub coded_elem : Coded Elem
coded_elem =
    code_by
    (Items × ℕ)
    (coded× coded_items coded_ℕ)
    (λ e. (item e.name e.tree no_items, e.start))
    (λ p. record { name = one_name p.0; tree = one_tree p.0; start = p.1 })
    (λ _. refl)

-- what was read, or nothing
abbrev pub or_none : Result Items BsonFault → Items
or_none (Ok is) = is
or_none (Err e) = no_items

-- the document that the bytes spell
unfoldable pub doc_of : List ℕ → Items
doc_of bs = or_none (document bs)

-- the elements that the bytes spell
unfoldable pub elements_of : List ℕ → Items
elements_of bs = or_none (elements_at (inside_at (level_limit - 1)) 0 bs)

-- embedded document and array
abbrev pub is_inner : ℕ → Bool
is_inner tag = tag == 0x03 || tag == 0x04

-- the value of this type that the bytes spell
abbrev pub value_tree : ℕ → List ℕ → Tree
value_tree tag bs = if is_inner tag then node tag (doc_of bs) else leaf tag bs

-- the bytes are the spelling of a document
pub record SpellsDoc (bs : List ℕ) : Type 0 where
  pub tree : Items
  pub doc : IsDoc tree
  pub parts : bs ≡ doc_bytes tree

-- the bytes are the spelling of elements of a document
pub record SpellsElements (bs : List ℕ) : Type 0 where
  pub tree : Items
  pub laid : IsItems level_limit tree
  pub parts : bs ≡ items_bytes tree

-- the bytes are the spelling of a value of this type that adds at most so many levels
pub record SpellsWithin (levels tag : ℕ) (bs : List ℕ) : Type 0 where
  pub tree : Tree
  pub laid : IsValue (IsItems levels) tree
  pub type : tag_of tree ≡ tag
  pub parts : bs ≡ value_bytes tree

-- the bytes are the spelling of a value of this type in a document
abbrev pub SpellsValue : ℕ → List ℕ → Type 0
SpellsValue tag bs = SpellsWithin (level_limit - 1) tag bs

-- a document or an array
abbrev pub has_inside : Tree → Bool
has_inside (leaf tag bytes) = false
has_inside (node tag is) = true

-- the value of the element begins at `at` or, being a document or an array, holds it
abbrev pub holds : ℕ → Elem → Bool
holds at e = e.start == at || (has_inside e.tree &&
    (nat_lt e.start at && nat_lt at (e.start + length (value_bytes e.tree))))

-- the first element that holds `at`, and its number, among elements from number i on that begin at `start`
abbrev pub holding : ℕ → ℕ → ℕ → Items → Option (ℕ × Elem)
holding at i start no_items = None
holding at i start (item name t is) =
    if holds at (record { name = name; tree = t; start = start + (2 + length name) })
    then Some (i, record { name = name; tree = t; start = start + (2 + length name) })
    else holding at (i + 1) (start + (2 + length name) + length (value_bytes t)) is
