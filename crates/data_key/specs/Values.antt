-- BSON 1.1: values of some types, as key documents have them
use Rattle.std.specs.Prelude.{ℕ, ◌==◌, ◌&&◌, Bool, true, List, [], ◌∷◌, length, drop, slice_index, Option}
use Rattle.std.specs.Prelude.{Some, None, if◌then◌else◌}
use Rattle.bson_tree.specs.Tree.{Tree, Items, no_items, item, tag_of}
use Rattle.bson_tree.specs.Spelling.{value_bytes}
use Rattle.bson_codec.specs.Values.{is_string_value, text_of}

-- a binary (05)
abbrev pub is_binary : Tree → Bool
is_binary t = tag_of t == 5

-- each value is a string
abbrev pub are_strings : Items → Bool
are_strings no_items = true
are_strings (item name t is) = is_string_value t && are_strings is

-- the texts of the strings among the values, in order
abbrev pub texts : Items → List (List ℕ)
texts no_items = []
texts (item name t is) = if is_string_value t then text_of (value_bytes t) ∷ texts is else texts is

-- "binary": its bytes are the length in four bytes, the subtype, and the contents
abbrev pub contents_of : ℕ → Tree → Option (List ℕ)
contents_of subtype t =
    if is_binary t && (slice_index (value_bytes t) 4 == subtype) then Some (drop 5 (value_bytes t)) else None

-- so many bytes
abbrev pub of_length : ℕ → Option (List ℕ) → Option (List ℕ)
of_length n None = None
of_length n (Some bytes) = if length bytes == n then Some bytes else None

-- a UUID: a binary of subtype 04 with 16 bytes
abbrev pub uuid_of : Tree → Option (List ℕ)
uuid_of t = of_length 16 (contents_of 4 t)
