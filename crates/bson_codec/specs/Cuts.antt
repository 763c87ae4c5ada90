-- BSON 1.1, `e_list`: elements cut before the first that an offset meets
use Rattle.std.specs.Prelude.{◌≡◌, ℕ, ◌+◌, Bool, ◌||◌, ◌&&◌, ◌==◌, nat_lt, List, length, Option, Some, None}
use Rattle.std.specs.Prelude.{if◌then◌else◌}
use Rattle.bson_tree.specs.Tree.{Tree, Items, no_items, item}
use Rattle.bson_tree.specs.Spelling.{value_bytes, items_bytes}
use Rattle.bson_codec.specs.Borrowed.{At, elements_of, has_inside, value_tree, SpellsElements, SpellsValue}

-- the value that begins at `start` begins at the offset `at`, or is a document or an array that ends behind it
abbrev pub meets : ℕ → ℕ → Tree → Bool
meets at start t = at == start || (has_inside t && nat_lt at (start + length (value_bytes t)))

-- of elements that begin at `start`, those before the first whose value the offset meets; all where it meets none
abbrev pub before_meeting : ℕ → ℕ → Items → Items
before_meeting at start no_items = no_items
before_meeting at start (item name t is) =
    if meets at (start + (2 + length name)) t then no_items
    else item name t (before_meeting at (start + (2 + length name) + length (value_bytes t)) is)

-- and those from there on, with the offset of the first
abbrev pub from_meeting : ℕ → ℕ → Items → At
from_meeting at start no_items = record { tree = no_items; start = start }
from_meeting at start (item name t is) =
    if meets at (start + (2 + length name)) t then record { tree = item name t is; start = start }
    else from_meeting at (start + (2 + length name) + length (value_bytes t)) is

-- the same before an offset, if there is one; all where there is none
abbrev pub items_before : Option ℕ → At → Items
items_before None s = s.tree
items_before (Some at) s = before_meeting at s.start s.tree

-- the same from an offset on, if there is one; none where there is none
abbrev pub items_from : Option ℕ → At → At
items_from None s = record { tree = no_items; start = s.start + length (items_bytes s.tree) }
items_from (Some at) s = from_meeting at s.start s.tree

-- elements begin with one that has these parts, and these bytes behind it
pub record IsMet (is : Items) (tag : ℕ) (name value rest : List ℕ) : Type 0 where
  pub whole : is ≡ item name (value_tree tag value) (elements_of rest)
  pub spelled : SpellsValue tag value
  pub bytes : value ≡ value_bytes (value_tree tag value)
  pub others : SpellsElements rest
