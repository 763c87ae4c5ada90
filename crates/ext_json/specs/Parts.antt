-- The parts of raw values, read from their bytes: total functions, which `laws` ties to the layouts of BSON 1.1.
use Rattle.std.specs.Prelude.{ℕ, ℤ, ◌+◌, ◌-◌, ◌==◌, List, [], ◌∷◌, length, take, drop, get_or, if◌then◌else◌}
use Rattle.std.specs.Int.{from_le_bytes, cast_signed, w32, w64}
use Rattle.bson_tree.specs.Tree.{Items}
use Rattle.bson_codec.specs.Borrowed.{doc_of}

-- BSON 1.1, "string": the text behind its length and before its 00
abbrev pub text_of : List ℕ → List ℕ
text_of bs = take (length bs - 5) (drop 4 bs)

-- BSON 1.1, "binary": the subtype
abbrev pub subtype_of : List ℕ → ℕ
subtype_of bs = get_or bs 4 0

-- and the contents behind it
abbrev pub contents_of : List ℕ → List ℕ
contents_of bs = drop 5 bs

-- BSON 1.1, "cstring": the bytes before the first 00
unfoldable pub before_zero : List ℕ → List ℕ
before_zero [] = []
before_zero (b ∷ bs) = if b == 0 then [] else b ∷ before_zero bs

-- and those behind it
unfoldable pub after_zero : List ℕ → List ℕ
after_zero [] = []
after_zero (b ∷ bs) = if b == 0 then bs else after_zero bs

-- BSON 1.1, "regular expression": the pattern
abbrev pub pattern_of : List ℕ → List ℕ
pattern_of bs = before_zero bs

-- and its options
abbrev pub options_of : List ℕ → List ℕ
options_of bs = before_zero (after_zero bs)

-- BSON 1.1, "DBPointer": the name space
abbrev pub namespace_of : List ℕ → List ℕ
namespace_of bs = text_of (take (length bs - 12) bs)

-- and the id of 12 bytes behind it
abbrev pub id_of : List ℕ → List ℕ
id_of bs = drop (length bs - 12) bs

-- BSON 1.1, "int32": a signed number, the lowest byte first
abbrev pub int32_of : List ℕ → ℤ
int32_of bs = cast_signed w32 (from_le_bytes w32 bs)

-- BSON 1.1, "int64"
abbrev pub int64_of : List ℕ → ℤ
int64_of bs = cast_signed w64 (from_le_bytes w64 bs)

-- BSON 1.1, "timestamp": the seconds in the upper four bytes, unsigned
abbrev pub seconds_of : List ℕ → ℕ
seconds_of bs = from_le_bytes w32 (drop 4 bs)

-- and the increment in the lower four
abbrev pub increment_of : List ℕ → ℕ
increment_of bs = from_le_bytes w32 (take 4 bs)

-- how many bytes a string at the front has
abbrev pub string_width : List ℕ → ℕ
string_width bs = from_le_bytes w32 (take 4 bs) + 4

-- BSON 1.1, "code_w_s": the code
abbrev pub code_of : List ℕ → List ℕ
code_of bs = text_of (take (string_width (drop 4 bs)) (drop 4 bs))

-- and the scope behind it
abbrev pub scope_of : List ℕ → Items
scope_of bs = doc_of (drop (string_width (drop 4 bs)) (drop 4 bs))
