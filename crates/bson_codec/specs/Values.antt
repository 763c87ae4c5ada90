-- BSON 1.1: values of some types, and the text of a string
use Rattle.std.specs.Prelude.{ℕ, ◌==◌, ◌-◌, Bool, List, length, take, drop, Option, Some, None, if◌then◌else◌}
use Rattle.bson_tree.specs.Tree.{Tree, tag_of}
use Rattle.bson_tree.specs.Spelling.{value_bytes}

-- a string (02)
abbrev pub is_string_value : Tree → Bool
is_string_value t = tag_of t == 2

-- a document (03)
abbrev pub is_document_value : Tree → Bool
is_document_value t = tag_of t == 3

-- an array (04)
abbrev pub is_array_value : Tree → Bool
is_array_value t = tag_of t == 4

-- the text of a string: its bytes are the length in four bytes, the text, and 00
abbrev pub text_of : List ℕ → List ℕ
text_of bytes = take (length bytes - 5) (drop 4 bytes)

-- only a string has a text
abbrev pub text_value : Tree → Option (List ℕ)
text_value t = if is_string_value t then Some (text_of (value_bytes t)) else None
