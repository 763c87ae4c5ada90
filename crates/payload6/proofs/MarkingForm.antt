-- A marking, part by part.
use Rattle.std.proofs.Common.{◌≡◌, ◌∙◌, ℕ, ◌+◌, List, [], ◌∷◌, ◌++◌, length, arith, ap, append_assoc, length-append}
use Rattle.std.specs.Prelude.{codes}
use Rattle.std.specs.Int.{to_le_bytes, w32}
use Rattle.bson_tree.specs.Tree.{Tree, Items, leaf, no_items, item}
use Rattle.bson_tree.specs.Spelling.{value_bytes, items_bytes}
use Rattle.bson_codec.specs.Layout.{string_bytes}
use Rattle.encrypt_schema.specs.declared.schema.policy.Algorithm.{Algorithm}
use Rattle.payload6.specs.Payload.{algorithm_number}
use Rattle.payload6.specs.Marking.{binary, key_name, key_value, marking, marking_fields}
use Rattle.payload6.specs.Needs.{Need, Id, Name, need_bytes}

-- an element has its type byte, its name, 00 and its value
element_size : (name : List ℕ) (t : Tree) (is : Items)
    → length (items_bytes (item name t is)) ≡ length name + 2 + length (value_bytes t) + length (items_bytes is)
element_size name t is =
    omega (
      arith,
      length-append name (0 ∷ (value_bytes t ++ items_bytes is)),
      length-append (value_bytes t) (items_bytes is),
    )

-- a binary has its length in four bytes, its subtype, and its contents
binary_size : (subtype : ℕ) (contents : List ℕ) → length (value_bytes (binary subtype contents)) ≡ length contents + 5
binary_size subtype contents = omega arith

-- the field that names the key has nine bytes more than the id or the name
key_size : (need : Need) → length (items_bytes (item (key_name need) (key_value need) no_items))
    ≡ length (need_bytes need) + 9
key_size (Id id) = omega (arith, element_size (codes "ki") (binary 4 id) no_items, binary_size 4 id)
key_size (Name name) =
    omega (arith, element_size (codes "ka") (leaf 2 (string_bytes name)) no_items, length-append name (0 ∷ []))

-- the fields of a marking have 19 bytes more than the value and the key's id or name
pub fields_size : (algorithm : Algorithm) (need : Need) (t : Tree)
    → length (items_bytes (marking_fields algorithm need t)) ≡ length (value_bytes t) + 19 + length (need_bytes need)
unfolding marking_fields
fields_size algorithm need t =
    let a = leaf 16 (algorithm_number algorithm ∷ 0 ∷ 0 ∷ 0 ∷ []) in
    let last = item (key_name need) (key_value need) no_items in
    let rest = item (codes "a") a last in
    omega (arith, element_size (codes "v") t rest, element_size (codes "a") a last, key_size need)

-- 00, the length, the fields, 00
parts : List ℕ → ℕ → List ℕ
parts fields n = 0 ∷ (to_le_bytes w32 n ++ (fields ++ 0 ∷ []))

-- a marking is 00, its length, its fields, and 00
pub put_parts : (algorithm : Algorithm) (need : Need) (t : Tree) (n : ℕ) (o a b c whole : List ℕ)
    → n ≡ length (value_bytes t) + length (need_bytes need) + 24
    → a ≡ o ++ 0 ∷ []
    → b ≡ a ++ to_le_bytes w32 n
    → c ≡ b ++ items_bytes (marking_fields algorithm need t)
    → whole ≡ c ++ 0 ∷ []
    → whole ≡ o ++ marking algorithm need t
unfolding parts
put_parts algorithm need t n o a b c whole is ea eb ec ew =
    let fields = items_bytes (marking_fields algorithm need t) in
    let size : n ≡ length fields + 5 = omega (arith, is, fields_size algorithm need t) in
    rw (ew, ec, eb, ea) (simp append_assoc) ∙ ap (λ (k : ℕ). o ++ parts fields k) size

-- the fields of a marking, one by one
pub put_fields : (algorithm : Algorithm) (need : Need) (t : Tree) (o a b whole : List ℕ)
    → a ≡ o ++ items_bytes (item (codes "v") t no_items)
    → b ≡ a ++ items_bytes (item (codes "a") (leaf 16 (algorithm_number algorithm ∷ (0 ∷ (0 ∷ (0 ∷ []))))) no_items)
    → whole ≡ b ++ items_bytes (item (key_name need) (key_value need) no_items)
    → whole ≡ o ++ items_bytes (marking_fields algorithm need t)
unfolding marking_fields
put_fields algorithm need t o a b whole ea eb ew = rw (ew, eb, ea) (simp append_assoc)
