-- BSON 1.1, "element": the layout of the value behind each type byte.
use Rattle.std.specs.Prelude.{ℕ, List, [], ◌∷◌, Option, Some, None, ◌==◌, if◌then◌else◌}
use Rattle.bson_codec.specs.declared.table.ValueLayout.{ValueLayout}
use Rattle.bson_codec.specs.declared.table.ValueLayout.TheVariants as values
use Rattle.bson_codec.specs.declared.table.RawLayout.TheVariants as raws

-- BSON 1.1, the types in the order of their bytes
abbrev pub layouts : List (ℕ × ValueLayout)
layouts =
    (0x01, values.Raw (raws.Fixed 8))  -- double
    ∷ (0x02, values.Raw raws.Text)  -- string
    ∷ (0x03, values.Document)  -- embedded document
    ∷ (0x04, values.Document)  -- array
    ∷ (0x05, values.Raw raws.Binary)  -- binary
    ∷ (0x06, values.Raw (raws.Fixed 0))  -- undefined
    ∷ (0x07, values.Raw (raws.Fixed 12))  -- object id
    ∷ (0x08, values.Raw raws.Bool)  -- boolean
    ∷ (0x09, values.Raw (raws.Fixed 8))  -- date
    ∷ (0x0A, values.Raw (raws.Fixed 0))  -- null
    ∷ (0x0B, values.Raw raws.Regex)  -- regular expression
    ∷ (0x0C, values.Raw raws.Pointer)  -- pointer into a database
    ∷ (0x0D, values.Raw raws.Text)  -- code
    ∷ (0x0E, values.Raw raws.Text)  -- symbol
    ∷ (0x0F, values.Raw raws.Scope)  -- code with scope
    ∷ (0x10, values.Raw (raws.Fixed 4))  -- 32-bit integer
    ∷ (0x11, values.Raw (raws.Fixed 8))  -- timestamp
    ∷ (0x12, values.Raw (raws.Fixed 8))  -- 64-bit integer
    ∷ (0x13, values.Raw (raws.Fixed 16))  -- decimal
    ∷ (0x7F, values.Raw (raws.Fixed 0))  -- maximal key
    ∷ (0xFF, values.Raw (raws.Fixed 0))  -- minimal key
    ∷ []

-- the layout that a table gives a type byte
abbrev pub layout_in : ℕ → List (ℕ × ValueLayout) → Option ValueLayout
layout_in tag [] = None
layout_in tag (row ∷ rows) = if tag == row.0 then Some row.1 else layout_in tag rows

-- the layout of a value of this type; none for a byte that is no type
unfoldable pub layout_of : ℕ → Option ValueLayout
layout_of tag = layout_in tag layouts
