-- BSON 1.1, the grammar as a property of trees: which trees have a spelling.
-- `D` says which documents may stand inside a value.
use Rattle.std.specs.Prelude.{◌≡◌, ◌+◌, ◌^◌, ◌<◌, ◌≤◌, ℕ, zero, suc, List, [], ◌∷◌, ◌++◌, length, Option, Some, None}
use Rattle.std.specs.Prelude.{◌⊎◌}
use Rattle.std.specs.Int.{to_le_bytes, w32}
use Rattle.bson_tree.specs.Tree.{Tree, Items, leaf, node, no_items, item, tag_of}
use Rattle.bson_tree.specs.Spelling.{doc_bytes}
use Rattle.bson_codec.specs.declared.table.ValueLayout.{ValueLayout}
use Rattle.bson_codec.specs.declared.table.ValueLayout.TheVariants as values
use Rattle.bson_codec.specs.declared.table.RawLayout.{RawLayout}
use Rattle.bson_codec.specs.declared.table.RawLayout.TheVariants as raws
use Rattle.bson_codec.specs.Table.{layout_of}

-- BSON 1.1, "cstring": bytes other than 00
abbrev pub IsName : List ℕ → Type 0
IsName [] = Unit {0}
IsName (b ∷ name) = (0 < b) × IsName name

-- BSON 1.1, "string": the bytes of a text: its length with the final 00, itself, 00
abbrev pub string_bytes : List ℕ → List ℕ
string_bytes text = to_le_bytes w32 (length text + 1) ++ (text ++ 0 ∷ [])

-- BSON 1.1, "binary": the bytes of a binary: the length of its contents, the subtype, the contents
abbrev pub binary_bytes : ℕ → List ℕ → List ℕ
binary_bytes subtype contents = to_le_bytes w32 (length contents) ++ (subtype ∷ contents)

-- the bytes are those of a string
pub record IsString (bytes : List ℕ) : Type 0 where
  pub text : List ℕ
  pub fits : length text + 1 < 2 ^ 31
  pub parts : bytes ≡ string_bytes text

-- the bytes are those of a binary
pub record IsBinary (bytes : List ℕ) : Type 0 where
  pub subtype : ℕ
  pub contents : List ℕ
  pub fits : length contents < 2 ^ 31
  pub parts : bytes ≡ binary_bytes subtype contents

-- the bytes are those of a regular expression: a pattern and its options, two names
pub record IsRegex (bytes : List ℕ) : Type 0 where
  pub pattern : List ℕ
  pub options : List ℕ
  pub pattern_named : IsName pattern
  pub options_named : IsName options
  pub parts : bytes ≡ (pattern ++ 0 ∷ []) ++ (options ++ 0 ∷ [])

-- the bytes are those of a pointer into a database: a name space and an id
pub record IsPointer (bytes : List ℕ) : Type 0 where
  pub text : List ℕ
  pub id : List ℕ
  pub fits : length text + 1 < 2 ^ 31
  pub id_size : length id ≡ 12
  pub parts : bytes ≡ string_bytes text ++ id

-- BSON 1.1, "code_w_s": the bytes of code with its scope: the length of all, the code, the scope
abbrev pub scope_bytes : List ℕ → Items → List ℕ
scope_bytes code scope = to_le_bytes w32 (length (string_bytes code ++ doc_bytes scope) + 4)
    ++ (string_bytes code ++ doc_bytes scope)

-- the bytes are those of code with its scope
pub record IsScope (D : Items → Type 0) (bytes : List ℕ) : Type 0 where
  pub code : List ℕ
  pub scope : Items
  pub inside : D scope
  pub fits : length (scope_bytes code scope) < 2 ^ 31
  pub parts : bytes ≡ scope_bytes code scope

-- the bytes of a raw value have this layout
abbrev pub IsRaw : (Items → Type 0) → RawLayout → List ℕ → Type 0
IsRaw D (raws.Fixed width) bytes = length bytes ≡ width
IsRaw D raws.Bool bytes = (bytes ≡ 0 ∷ []) ⊎ (bytes ≡ 1 ∷ [])
IsRaw D raws.Text bytes = IsString bytes
IsRaw D raws.Binary bytes = IsBinary bytes
IsRaw D raws.Regex bytes = IsRegex bytes
IsRaw D raws.Pointer bytes = IsPointer bytes
IsRaw D raws.Scope bytes = IsScope D bytes

-- a document of such elements, with a length that a signed number of 32 bits holds
pub record IsInside (D : Items → Type 0) (is : Items) : Type 0 where
  pub inside : D is
  pub fits : length (doc_bytes is) < 2 ^ 31

-- the value has this layout
abbrev pub HasLayout : (Items → Type 0) → Option ValueLayout → Tree → Type 0
HasLayout D None t = ⊥
HasLayout D (Some values.Document) (leaf tag bytes) = ⊥
HasLayout D (Some values.Document) (node tag is) = IsInside D is
HasLayout D (Some (values.Raw layout)) (leaf tag bytes) = IsRaw D layout bytes
HasLayout D (Some (values.Raw layout)) (node tag is) = ⊥

-- the value has the layout of its type
abbrev pub IsValue : (Items → Type 0) → Tree → Type 0
IsValue D t = HasLayout D (layout_of (tag_of t)) t

-- each name and each value has its layout
abbrev pub AreElements : (Items → Type 0) → Items → Type 0
AreElements D no_items = Unit {0}
AreElements D (item name t is) = IsName name × IsValue D t × AreElements D is

-- the elements of a document that takes at most so many levels of nesting, its own included
abbrev pub IsItems : ℕ → Items → Type 0
IsItems zero is = ⊥
IsItems (suc levels) is = AreElements (IsItems levels) is

-- the most levels of nesting, a document itself being level 1
abbrev pub level_limit : ℕ
level_limit = 100

-- a document that has a spelling
abbrev pub IsDoc : Items → Type 0
IsDoc is = IsInside (IsItems level_limit) is

-- the longest document that is read or written here
abbrev pub longest : ℕ
longest = 67108864

-- a document with a spelling of at most so many bytes
pub record IsWellFormed (is : Items) : Type 0 where
  pub spelled : IsDoc is
  pub short : length (doc_bytes is) ≤ longest
