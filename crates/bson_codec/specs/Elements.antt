-- The element at the front of bytes that were checked, found without judging its value again.
use Rattle.std.specs.Prelude.{◌≡◌, ◌+◌, ℕ, List, [], ◌∷◌, length, drop, Option, Some, None, Result, Ok}
use Rattle.std.specs.Iterator.{Count, at_most}
use Rattle.bson_tree.specs.Tree.{no_items, item, count}
use Rattle.bson_tree.specs.Spelling.{value_bytes}
use Rattle.bson_codec.specs.declared.fault.BsonKind.TheVariants as kinds
use Rattle.bson_codec.specs.declared.fault.BsonFault.{BsonFault}
use Rattle.bson_codec.specs.declared.front.Front.{Front}
use Rattle.bson_codec.specs.declared.table.ValueLayout.{ValueLayout}
use Rattle.bson_codec.specs.declared.table.ValueLayout.TheVariants as values
use Rattle.bson_codec.specs.declared.table.RawLayout.TheVariants as raws
use Rattle.bson_codec.specs.Fault.{fault, ◌>>=◌}
use Rattle.bson_codec.specs.Borrowed.{At, Elem, elements_of, value_tree, SpellsElements, SpellsValue}
use Rattle.bson_codec.specs.Reading.{int32_at, cstring_at, bytes_at, regex_at, type_at}

-- how many bytes a value of this layout states to have
abbrev pub stated_width : ValueLayout → List ℕ → Result ℕ BsonFault
stated_width values.Document bs = int32_at 0 bs
stated_width (values.Raw (raws.Fixed width)) bs = Ok width
stated_width (values.Raw raws.Bool) bs = Ok 1
stated_width (values.Raw raws.Text) bs = int32_at 0 bs >>= λ n. Ok (n + 4)
stated_width (values.Raw raws.Binary) bs = int32_at 0 bs >>= λ n. Ok (n + 5)
stated_width (values.Raw raws.Regex) bs = regex_at 0 bs
stated_width (values.Raw raws.Pointer) bs = int32_at 0 bs >>= λ n. Ok (n + 16)
stated_width (values.Raw raws.Scope) bs = int32_at 0 bs

-- the type, the length of the name and the number of bytes of the value of the element at the front
unfoldable pub front_at : List ℕ → Result Front BsonFault
front_at [] = fault kinds.Short 0
front_at (tag ∷ bs) = do
  layout ← type_at 0 tag
  n ← cstring_at 0 bs
  stated ← stated_width layout (drop (n + 1) bs)
  width ← bytes_at stated 0 (drop (n + 1) bs)
  Ok (record { tag = tag; name = n; width = width })

-- bytes that spell elements begin with an element, and these are its parts and what follows it
pub record IsParted (bs : List ℕ) (tag : ℕ) (name value rest : List ℕ) : Type 0 where
  pub whole : elements_of bs ≡ item name (value_tree tag value) (elements_of rest)
  pub spelled : SpellsValue tag value
  pub bytes : value ≡ value_bytes (value_tree tag value)
  pub others : SpellsElements rest
  pub size : length bs ≡ length name + 2 + length value + length rest

-- an element was taken off the front, or there was none
abbrev pub TakesElement : At → Option Elem → At → Type 0
TakesElement s None t = (s.tree ≡ no_items) × (t.tree ≡ no_items)
TakesElement s (Some e) t =
    (s.tree ≡ item e.name e.tree t.tree)
    × (e.start ≡ s.start + (2 + length e.name))
    × (t.start ≡ e.start + length (value_bytes e.tree))

-- how many elements are left
abbrev pub elements_left : At → Count
elements_left s = at_most (count s.tree)
