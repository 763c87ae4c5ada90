-- A marking as it stands in a command, part by part.
use Rattle.std.proofs.Common.{◌≡◌, ℕ, ◌+◌, List, [], ◌∷◌, ◌++◌, length, arith, append_assoc}
use Rattle.std.proofs.lemmas.List.{append-nil}
use Rattle.std.specs.Int.{to_le_bytes, w32}
use Rattle.bson_tree.specs.Tree.{Tree, no_items, item}
use Rattle.bson_tree.specs.Spelling.{value_bytes, items_bytes}
use Rattle.encrypt_schema.specs.declared.schema.policy.Algorithm.{Algorithm}
use Rattle.payload6.specs.Marking.{marking}
use Rattle.payload6.specs.Needs.{Need}
use Rattle.command_marker.specs.Marking.{marked_value}
use Rattle.command_marker.specs.Written.{growth}
use Rattle.command_marker.proofs.Lengths.{contents_size}

-- a binary's type byte, name, length, subtype and contents
binary_parts : (out name contents : List ℕ) (n : ℕ) (a b c whole : List ℕ) → n ≡ length contents
    → a ≡ out ++ (5 ∷ (name ++ 0 ∷ []))
    → b ≡ a ++ to_le_bytes w32 n
    → c ≡ b ++ 6 ∷ []
    → whole ≡ c ++ contents
    → whole ≡ out ++ (5 ∷ (name ++ (0 ∷ ((to_le_bytes w32 (length contents) ++ (6 ∷ contents)) ++ []))))
binary_parts out name contents n a b c whole is ea eb ec ew = rw (ew, ec, eb, ea, is) (simp (append_assoc, append-nil))

-- an element with a marking for its value
pub put_parts : (algorithm : Algorithm) (need : Need) (t : Tree) (n : ℕ) (out name a b c whole : List ℕ)
    → n + 5 ≡ length (value_bytes t) + growth need
    → a ≡ out ++ (5 ∷ (name ++ 0 ∷ []))
    → b ≡ a ++ to_le_bytes w32 n
    → c ≡ b ++ 6 ∷ []
    → whole ≡ c ++ marking algorithm need t
    → whole ≡ out ++ items_bytes (item name (marked_value algorithm need t) no_items)
unfolding marked_value
put_parts algorithm need t n out name a b c whole size ea eb ec ew =
    let is : n ≡ length (marking algorithm need t) = omega (arith, size, contents_size algorithm need t) in
    binary_parts out name (marking algorithm need t) n a b c whole is ea eb ec ew
