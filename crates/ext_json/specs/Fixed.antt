-- MongoDB Extended JSON v2, "Conversion table", canonical form: the fixed parts of the texts of values. The forms of
-- doubles and decimals, whose bytes are written as they stand, are this project's own.
use Rattle.std.specs.Prelude.{ℕ, List, codes, ◌==◌, if◌then◌else◌}
use Rattle.ext_json.specs.declared.form.Form.{Form}
use Rattle.ext_json.specs.declared.form.Form.TheVariants as forms

-- what a value of a form begins with
unfoldable pub head_text : Form → List ℕ
head_text forms.DoubleBits = codes "{\"$doubleBits\":\""
head_text forms.Text = codes "\""
head_text forms.Binary = codes "{\"$binary\":{\"base64\":\""
head_text forms.Undefined = codes "{\"$undefined\":true}"
head_text forms.ObjectId = codes "{\"$oid\":\""
head_text forms.Bool = codes ""
head_text forms.Date = codes "{\"$date\":{\"$numberLong\":\""
head_text forms.Null = codes "null"
head_text forms.Regex = codes "{\"$regularExpression\":{\"pattern\":"
head_text forms.Pointer = codes "{\"$dbPointer\":{\"$ref\":"
head_text forms.Code = codes "{\"$code\":"
head_text forms.Symbol = codes "{\"$symbol\":"
head_text forms.Scope = codes "{\"$code\":"
head_text forms.Int32 = codes "{\"$numberInt\":\""
head_text forms.Timestamp = codes "{\"$timestamp\":{\"t\":"
head_text forms.Int64 = codes "{\"$numberLong\":\""
head_text forms.DecimalBits = codes "{\"$decimalBits\":\""
head_text forms.MaxKey = codes "{\"$maxKey\":1}"
head_text forms.MinKey = codes "{\"$minKey\":1}"

-- what stands between the two parts of a value of a form that has two
unfoldable pub middle_text : Form → List ℕ
middle_text forms.Binary = codes "\",\"subType\":\""
middle_text forms.Regex = codes ",\"options\":"
middle_text forms.Pointer = codes ",\"$id\":{\"$oid\":\""
middle_text forms.Scope = codes ",\"$scope\":"
middle_text forms.Timestamp = codes ",\"i\":"
middle_text _ = codes ""

-- what a value of a form ends with
unfoldable pub tail_text : Form → List ℕ
tail_text forms.DoubleBits = codes "\"}"
tail_text forms.Text = codes "\""
tail_text forms.Binary = codes "\"}}"
tail_text forms.Undefined = codes ""
tail_text forms.ObjectId = codes "\"}"
tail_text forms.Bool = codes ""
tail_text forms.Date = codes "\"}}"
tail_text forms.Null = codes ""
tail_text forms.Regex = codes "}}"
tail_text forms.Pointer = codes "\"}}}"
tail_text forms.Code = codes "}"
tail_text forms.Symbol = codes "}"
tail_text forms.Scope = codes "}"
tail_text forms.Int32 = codes "\"}"
tail_text forms.Timestamp = codes "}}"
tail_text forms.Int64 = codes "\"}"
tail_text forms.DecimalBits = codes "\"}"
tail_text forms.MaxKey = codes ""
tail_text forms.MinKey = codes ""

-- RFC 8259, section 3: the two truth values, by their byte in BSON
unfoldable pub truth_text : ℕ → List ℕ
truth_text b = if b == 0 then codes "false" else codes "true"
