-- BSON 1.1, read from left to right, with the first fault. `p` is the offset of the first byte of `bs`,
-- and `bs` ends before the final 00 of the document that the bytes stand in.
use Rattle.std.specs.Prelude.{◌+◌, ◌-◌, ◌^◌, ℕ, zero, suc, Bool, true, false, ◌||◌, ◌&&◌, not, List, [], ◌∷◌, length}
use Rattle.std.specs.Prelude.{◌≡◌, take, drop, get_or, Option, Some, None, option_map, Result, Ok, nat_lt, nat_le, ◌==◌}
use Rattle.std.specs.Prelude.{if◌then◌else◌}
use Rattle.std.specs.Int.{from_le_bytes, w32}
use Rattle.bson_tree.specs.Tree.{Tree, Items, leaf, node, no_items, item}
use Rattle.bson_tree.specs.Spelling.{doc_bytes}
use Rattle.bson_codec.specs.Bytes.{AreBytes}
use Rattle.bson_codec.specs.declared.fault.BsonKind.TheVariants as kinds
use Rattle.bson_codec.specs.declared.fault.BsonFault.{BsonFault}
use Rattle.bson_codec.specs.declared.table.ValueLayout.{ValueLayout}
use Rattle.bson_codec.specs.declared.table.ValueLayout.TheVariants as values
use Rattle.bson_codec.specs.declared.table.RawLayout.{RawLayout}
use Rattle.bson_codec.specs.declared.table.RawLayout.TheVariants as raws
use Rattle.bson_codec.specs.Fault.{fault, fault_if, ◌>>=◌}
use Rattle.bson_codec.specs.Table.{layout_of}
use Rattle.bson_codec.specs.Layout.{level_limit}

-- ---- numbers and names

-- a number of 32 bits, lowest byte first, stands for a signed number below `least`
abbrev pub signed_below : ℕ → ℕ → Bool
signed_below n least = nat_lt n least || nat_le (2 ^ 31) n

-- the four bytes of a length: Short at the end where they aren't there
unfoldable pub int32_at : ℕ → List ℕ → Result ℕ BsonFault
int32_at p bs = if nat_lt (length bs) 4 then fault kinds.Short (p + length bs) else Ok (from_le_bytes w32 (take 4 bs))

-- a length at p that is at least `least`, with `more` bytes beside what it counts: else Length at p
unfoldable pub length_at : ℕ → ℕ → ℕ → ℕ → List ℕ → Result ℕ BsonFault
length_at least more n p bs = if signed_below n least || nat_lt (length bs)
    (n + more) then fault kinds.Length p else Ok n

-- byte number i is 00: else NoEnd there
unfoldable pub zero_at : ℕ → ℕ → List ℕ → Result (Unit {0}) BsonFault
zero_at i p bs = fault_if (not (get_or bs i 0 == 0)) kinds.NoEnd (p + i)

-- how many bytes stand before the first 00
abbrev pub before_zero : List ℕ → Option ℕ
before_zero [] = None
before_zero (b ∷ bs) = if b == 0 then Some 0 else option_map (λ n. n + 1) (before_zero bs)

-- the length of a name that ends at its first 00, or the fault where no 00 stands up to the end
abbrev pub name_by : ℕ → Option ℕ → Result ℕ BsonFault
name_by end None = fault kinds.NoEnd end
name_by end (Some n) = Ok n

-- the length of a name: NoEnd at the end where no 00 follows it
unfoldable pub cstring_at : ℕ → List ℕ → Result ℕ BsonFault
cstring_at p bs = name_by (p + length bs) (before_zero bs)

-- ---- raw values, each with its number of bytes

-- so many bytes: Short at the end where they aren't there
unfoldable pub bytes_at : ℕ → ℕ → List ℕ → Result ℕ BsonFault
bytes_at width p bs = if nat_lt (length bs) width then fault kinds.Short (p + length bs) else Ok width

-- one byte, 00 or 01: else Bool there
unfoldable pub bool_at : ℕ → List ℕ → Result ℕ BsonFault
bool_at p bs = do
  n ← bytes_at 1 p bs
  _ ← fault_if (nat_lt 1 (get_or bs 0 0)) kinds.Bool p
  Ok n

-- a length that counts the final 00, the bytes, 00
unfoldable pub string_at : ℕ → List ℕ → Result ℕ BsonFault
string_at p bs = do
  stated ← int32_at p bs
  n ← length_at 1 4 stated p bs
  _ ← zero_at (n + 3) p bs
  Ok (n + 4)

-- a length, a subtype, and so many bytes
unfoldable pub binary_at : ℕ → List ℕ → Result ℕ BsonFault
binary_at p bs = do
  stated ← int32_at p bs
  n ← length_at 0 5 stated p bs
  Ok (n + 5)

-- two names: a pattern and its options
unfoldable pub regex_at : ℕ → List ℕ → Result ℕ BsonFault
regex_at p bs = do
  n ← cstring_at p bs
  m ← cstring_at (p + (n + 1)) (drop (n + 1) bs)
  Ok (n + 1 + (m + 1))

-- a text and 12 bytes
unfoldable pub pointer_at : ℕ → List ℕ → Result ℕ BsonFault
pointer_at p bs = do
  n ← string_at p bs
  m ← bytes_at 12 (p + n) (drop n bs)
  Ok (n + m)

-- what reads a document inside, which may have to fill the bytes: its elements and its number of bytes
abbrev pub Reader : Type 0
Reader = Bool → ℕ → List ℕ → Result (Items × ℕ) BsonFault

-- the number of bytes alone
abbrev pub width_of : {A : Type 0} → Result (A × ℕ) BsonFault → Result ℕ BsonFault
width_of read = read >>= λ x. Ok x.1

-- a length of all, a text, and a document that fills the rest; the two are judged within that length
unfoldable pub scope_at : Reader → ℕ → List ℕ → Result ℕ BsonFault
scope_at f p bs = do
  stated ← int32_at p bs
  n ← length_at 14 0 stated p bs
  m ← string_at (p + 4) (take (n - 4) (drop 4 bs))
  _ ← width_of (f true (p + (m + 4)) (drop m (take (n - 4) (drop 4 bs))))
  Ok n

-- a raw value of this layout
abbrev pub raw_at : Reader → RawLayout → ℕ → List ℕ → Result ℕ BsonFault
raw_at f (raws.Fixed width) p bs = bytes_at width p bs
raw_at f raws.Bool p bs = bool_at p bs
raw_at f raws.Text p bs = string_at p bs
raw_at f raws.Binary p bs = binary_at p bs
raw_at f raws.Regex p bs = regex_at p bs
raw_at f raws.Pointer p bs = pointer_at p bs
raw_at f raws.Scope p bs = scope_at f p bs

-- ---- elements

-- the layout of a type byte that is known, or the fault of one that isn't, at its own offset
abbrev pub layout_by : ℕ → Option ValueLayout → Result ValueLayout BsonFault
layout_by p None = fault kinds.Tag p
layout_by p (Some layout) = Ok layout

-- the layout behind the type byte at p: Extra behind a 00, Tag where the byte is no type
unfoldable pub type_at : ℕ → ℕ → Result ValueLayout BsonFault
type_at p tag = if tag == 0 then fault kinds.Extra (p + 1) else layout_by p (layout_of tag)

-- a value of this type and layout, and its number of bytes
unfoldable pub value_at : Reader → ℕ → ValueLayout → ℕ → List ℕ → Result (Tree × ℕ) BsonFault
value_at f tag values.Document p bs = f false p bs >>= λ x. Ok (node tag x.0, x.1)
value_at f tag (values.Raw layout) p bs = raw_at f layout p bs >>= λ n. Ok (leaf tag (take n bs), n)

-- an element's name, its value, and its number of bytes
pub record First : Type 0 where
  pub name : List ℕ
  pub tree : Tree
  pub width : ℕ

-- the element at p; there is one
unfoldable pub first_at : Reader → ℕ → List ℕ → Result First BsonFault
first_at f p [] = fault kinds.Short p
first_at f p (tag ∷ bs) = do
  layout ← type_at p tag
  n ← cstring_at (p + 1) bs
  value ← value_at f tag layout (p + (n + 2)) (drop (n + 1) bs)
  Ok (record { name = take n bs; tree = value.0; width = n + 2 + value.1 })

-- the number of bytes of an element alone
abbrev pub first_width : Result First BsonFault → Result ℕ BsonFault
first_width read = read >>= λ x. Ok x.width

-- the elements from p to the end of `bs`, at most so many of them
unfoldable pub rounds_at : Reader → ℕ → ℕ → List ℕ → Result Items BsonFault
rounds_at f zero p bs = Ok no_items
rounds_at f (suc n) p [] = Ok no_items
rounds_at f (suc n) p (tag ∷ bs) = do
  first ← first_at f p (tag ∷ bs)
  others ← rounds_at f n (p + first.width) (drop first.width (tag ∷ bs))
  Ok (item first.name first.tree others)

-- the elements from p to the end of `bs`; there are no more of them than bytes
unfoldable pub elements_at : Reader → ℕ → List ℕ → Result Items BsonFault
elements_at f p bs = rounds_at f (length bs) p bs

-- that there is no fault, alone
abbrev pub fault_of : {A : Type 0} → Result A BsonFault → Result (Unit {0}) BsonFault
fault_of read = read >>= λ _. Ok tt

-- ---- documents

-- a document at p of n bytes: elements, and NoEnd at its last byte where that isn't 00
unfoldable pub framed_at : Reader → ℕ → ℕ → List ℕ → Result (Items × ℕ) BsonFault
framed_at f n p bs = do
  is ← elements_at f (p + 4) (take (n - 5) (drop 4 bs))
  _ ← zero_at (n - 1) p bs
  Ok (is, n)

-- the length of a document inside another one that may still add so many levels: Deep at p where it may
-- add none, and Length at p where it has to fill the bytes and doesn't
unfoldable pub inside_length_at : ℕ → Bool → ℕ → List ℕ → Result ℕ BsonFault
inside_length_at levels fills p bs = do
  stated ← int32_at p bs
  _ ← fault_if (levels == 0) kinds.Deep p
  n ← length_at 5 0 stated p bs
  _ ← fault_if (fills && not (n == length bs)) kinds.Length p
  Ok n

-- a document inside another one
unfoldable pub nested_at : Reader → ℕ → Reader
nested_at f levels fills p bs = do
  n ← inside_length_at levels fills p bs
  framed_at f n p bs

-- the same, with documents inside it of fewer levels
unfoldable pub inside_at : ℕ → Reader
inside_at zero fills p bs = nested_at (λ fills p bs. Ok (no_items, 0)) 0 fills p bs
inside_at (suc levels) fills p bs = nested_at (inside_at levels) (suc levels) fills p bs

-- a document's stated length: Length at 0 below 5
abbrev pub stated_at : ℕ → Result ℕ BsonFault
stated_at n = if signed_below n 5 then fault kinds.Length 0 else Ok n

-- the stated length of the document at the front: Short at the end below four bytes, Length at 0 below 5,
-- Short at the end where there are fewer bytes
unfoldable pub total_at : List ℕ → Result ℕ BsonFault
total_at bs = do
  stated ← int32_at 0 bs
  n ← stated_at stated
  _ ← fault_if (nat_lt (length bs) n) kinds.Short (length bs)
  Ok n

-- the document at the front of the bytes and its number of bytes
unfoldable pub front_document : List ℕ → Result (Items × ℕ) BsonFault
front_document bs = do
  n ← total_at bs
  framed_at (inside_at (level_limit - 1)) n 0 bs

-- the document that the bytes spell, all of them: Extra at its end, before its elements are read, where
-- bytes follow it
unfoldable pub document : List ℕ → Result Items BsonFault
document bs = do
  n ← total_at bs
  _ ← fault_if (nat_lt n (length bs)) kinds.Extra n
  read ← front_document bs
  Ok read.0

-- bytes spell the document, and it is read from them
abbrev pub IsReadBack : Items → Type 0
IsReadBack is = AreBytes (doc_bytes is) × (document (doc_bytes is) ≡ Ok is)
