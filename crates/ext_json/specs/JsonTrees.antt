-- The BSON values that JSON values (RFC 8259) stand for in schemas.
use Rattle.std.specs.Prelude.{ℕ, ℤ, pos, negsuc, ◌+◌, ◌^◌, Bool, true, false, [], ◌∷◌, Option, Some, None, option_map}
use Rattle.std.specs.Prelude.{option_and_then, nat_lt, if◌then◌else◌}
use Rattle.std.specs.Int.{to_le_bytes, w32, w64, cast_unsigned}
use Rattle.std.specs.Fmt.{decimal}
use Rattle.serde_json.specs.Data.{Data, null, boolean, number, string, array, object, Items as Values}
use Rattle.serde_json.specs.Data.{no_items as no_values, item as value_then, Members, no_members, member}
use Rattle.serde_json.specs.Find.{as_i64}
use Rattle.bson_tree.specs.Tree.{Tree, Items, leaf, node, no_items, item}
use Rattle.bson_codec.specs.Layout.{string_bytes, binary_bytes}
use Rattle.ext_json.specs.Binaries.{Contents, wrapped}

-- an integer that 32 signed bits hold
abbrev pub is_short : ℤ → Bool
is_short (pos n) = nat_lt n (2 ^ 31)
is_short (negsuc n) = nat_lt n (2 ^ 31)

-- an integer of 32 signed bits is an int, another one a long
abbrev pub integer_tree : ℤ → Tree
integer_tree z = if is_short z then leaf 0x10 (to_le_bytes w32 (cast_unsigned w32 z)) else leaf 0x12
    (to_le_bytes w64 (cast_unsigned w64 z))

-- an integer of 64 signed bits; any other number is undefined, which no rule reads
abbrev pub number_tree : Option ℤ → Tree
number_tree (Some z) = integer_tree z
number_tree None = leaf 0x06 []

-- BSON 1.1, "boolean": its byte
abbrev pub bool_byte : Bool → ℕ
bool_byte true = 1
bool_byte false = 0

-- BSON 1.1, "binary": the value of a subtype and contents
abbrev pub binary_tree : Contents → Tree
binary_tree c = leaf 0x05 (binary_bytes c.0 c.1)

-- an object: the binary that it stands for, or a document of its members
abbrev pub object_tree : Option (Option Contents) → Option Items → Option Tree
object_tree (Some contents) kids = option_map binary_tree contents
object_tree None kids = option_map (node 0x03) kids

abbrev mutual
  -- the value that a JSON value stands for; None where something in it is malformed
  pub json_tree : Data → Option Tree
  json_tree null = Some (leaf 0x0A [])
  json_tree (boolean b) = Some (leaf 0x08 (bool_byte b ∷ []))
  json_tree (number n) = Some (number_tree (as_i64 n))
  json_tree (string s) = Some (leaf 0x02 (string_bytes s))
  json_tree (array ds) = option_map (node 0x04) (array_items 0 ds)
  json_tree (object ms) = object_tree (wrapped ms) (object_items ms)

  -- the elements of an array from number i on, named by their numbers
  pub array_items : ℕ → Values → Option Items
  array_items i no_values = Some no_items
  array_items i (value_then d ds) = option_and_then (λ t. option_map (item (decimal i) t) (array_items (i + 1) ds))
      (json_tree d)

  -- the elements of an object, in the order of its members, which is that of the bytes of their names
  pub object_items : Members → Option Items
  object_items no_members = Some no_items
  object_items (member k d ms) = option_and_then (λ t. option_map (item k t) (object_items ms)) (json_tree d)
