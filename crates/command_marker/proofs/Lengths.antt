-- The lengths of spellings.
use Rattle.std.proofs.Common.{◌≡◌, ℕ, ◌+◌, List, length, arith}
use Rattle.bson_tree.specs.Tree.{Tree}
use Rattle.bson_tree.proofs.Sizes.{framed_size}
use Rattle.bson_tree.specs.Spelling.{value_bytes, items_bytes}
use Rattle.encrypt_schema.specs.declared.schema.policy.Algorithm.{Algorithm}
use Rattle.payload6.specs.Marking.{binary, marking_fields, marking}
use Rattle.payload6.specs.Needs.{Need}
use Rattle.payload6.proofs.MarkingForm.{fields_size}
use Rattle.command_marker.specs.Marking.{marked_value}
use Rattle.command_marker.specs.Written.{growth}

-- a binary has its length in four bytes, its subtype, and its contents
binary_size : (subtype : ℕ) (contents : List ℕ) → length (value_bytes (binary subtype contents)) ≡ length contents + 5
binary_size subtype contents = omega arith

-- the contents of a marking's binary
pub contents_size : (algorithm : Algorithm) (need : Need) (t : Tree)
    → length (marking algorithm need t) + 5 ≡ length (value_bytes t) + growth need
contents_size algorithm need t =
    omega (arith, fields_size algorithm need t, framed_size (items_bytes (marking_fields algorithm need t)))

-- a marking, as it stands in a command, has more bytes than its value
pub marking_size : (algorithm : Algorithm) (need : Need) (t : Tree)
    → length (value_bytes (marked_value algorithm need t)) ≡ length (value_bytes t) + growth need
unfolding marked_value
marking_size algorithm need t =
    omega (arith, contents_size algorithm need t, binary_size 6 (marking algorithm need t))
