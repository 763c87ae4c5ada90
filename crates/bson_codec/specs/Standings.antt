-- BSON 1.1: how a name stands in a document, whose names need not be distinct
use Rattle.std.specs.Prelude.{ℕ, List, bytes_eq, if◌then◌else◌}
use Rattle.bson_tree.specs.Tree.{Tree, Items, no_items, item}
use Rattle.bson_codec.specs.Borrowed.{Elem}
use Rattle.bson_codec.specs.declared.field.Field.{Field}
use Rattle.bson_codec.specs.declared.field.Field.TheVariants as fields

-- not at all, once with this value, or several times
pub data Standing : Type 0 where
  absent : Standing
  once : Tree → Standing
  repeated : Standing

-- one more value of the name, before the others
abbrev pub stands_too : Tree → Standing → Standing
stands_too t absent = once t
stands_too t (once u) = repeated
stands_too t repeated = repeated

-- how a name stands in a document: not at all, once with this value, or more than once
unfoldable pub standing : List ℕ → Items → Standing
standing word no_items = absent
standing word (item name t is) = if bytes_eq name word then stands_too t (standing word is) else standing word is

-- a value of the name, behind the others
abbrev pub stands_last : Standing → Tree → Standing
stands_last absent t = once t
stands_last (once u) t = repeated
stands_last repeated t = repeated

-- how a name stands with one more element, behind the others
abbrev pub stands_behind : List ℕ → Standing → Elem → Standing
stands_behind word s e = if bytes_eq e.name word then stands_last s e.tree else s

-- how a name stands in a document, as the code's field says
abbrev pub field_seen : Field → Standing
field_seen fields.Absent = absent
field_seen (fields.Once element) = once element.tree
field_seen fields.Repeated = repeated
