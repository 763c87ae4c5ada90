-- BSON 1.1, "element": the form in which values of each type are written, and the layout of its bytes.
use Rattle.std.specs.Prelude.{ℕ, List, [], ◌∷◌, Option, Some, None, ◌==◌, if◌then◌else◌}
use Rattle.bson_codec.specs.declared.table.RawLayout.{RawLayout}
use Rattle.bson_codec.specs.declared.table.RawLayout.TheVariants as raws
use Rattle.ext_json.specs.declared.form.Form.{Form}
use Rattle.ext_json.specs.declared.form.Form.TheVariants as forms

-- the types whose values hold no elements, each with its form
abbrev pub form_rows : List (ℕ × Form)
form_rows =
    (0x01, forms.DoubleBits)
    ∷ (0x02, forms.Text)
    ∷ (0x05, forms.Binary)
    ∷ (0x06, forms.Undefined)
    ∷ (0x07, forms.ObjectId)
    ∷ (0x08, forms.Bool)
    ∷ (0x09, forms.Date)
    ∷ (0x0A, forms.Null)
    ∷ (0x0B, forms.Regex)
    ∷ (0x0C, forms.Pointer)
    ∷ (0x0D, forms.Code)
    ∷ (0x0E, forms.Symbol)
    ∷ (0x0F, forms.Scope)
    ∷ (0x10, forms.Int32)
    ∷ (0x11, forms.Timestamp)
    ∷ (0x12, forms.Int64)
    ∷ (0x13, forms.DecimalBits)
    ∷ (0x7F, forms.MaxKey)
    ∷ (0xFF, forms.MinKey)
    ∷ []

-- the form of the first row of this type
abbrev pub form_in : ℕ → List (ℕ × Form) → Option Form
form_in tag [] = None
form_in tag (row ∷ rows) = if tag == row.0 then Some row.1 else form_in tag rows

-- the form of values of this type, where it has one
unfoldable pub form_of : ℕ → Option Form
form_of tag = form_in tag form_rows

-- the layout of a form's bytes
abbrev pub form_layout : Form → RawLayout
form_layout forms.DoubleBits = raws.Fixed 8
form_layout forms.Text = raws.Text
form_layout forms.Binary = raws.Binary
form_layout forms.Undefined = raws.Fixed 0
form_layout forms.ObjectId = raws.Fixed 12
form_layout forms.Bool = raws.Bool
form_layout forms.Date = raws.Fixed 8
form_layout forms.Null = raws.Fixed 0
form_layout forms.Regex = raws.Regex
form_layout forms.Pointer = raws.Pointer
form_layout forms.Code = raws.Text
form_layout forms.Symbol = raws.Text
form_layout forms.Scope = raws.Scope
form_layout forms.Int32 = raws.Fixed 4
form_layout forms.Timestamp = raws.Fixed 8
form_layout forms.Int64 = raws.Fixed 8
form_layout forms.DecimalBits = raws.Fixed 16
form_layout forms.MaxKey = raws.Fixed 0
form_layout forms.MinKey = raws.Fixed 0
