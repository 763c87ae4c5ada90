-- How long key documents are.
use Rattle.std.proofs.Common.{◌≡◌, ℕ, ◌+◌, ◌*◌, ◌≤◌, List, [], ◌∷◌, ◌++◌, length, arith, length-append}
use Rattle.std.specs.Prelude.{codes, decimal}
use Rattle.std.proofs.lemmas.Fmt.{length-decimal-le}
use Rattle.bson_tree.specs.Tree.{Tree, Items, node, item}
use Rattle.bson_tree.specs.Spelling.{value_bytes, items_bytes}
use Rattle.bson_tree.proofs.Sizes.{element_size, framed_size}
use Rattle.data_key.specs.declared.key_doc.KeyDoc.{KeyDoc}
use Rattle.data_key.specs.Written.{text, binary, numbered, names_field, history, key_fields}
use Rattle.data_key.specs.Written.{size_of}

pub text_size : (name : List ℕ) → length (value_bytes (text name)) ≡ length name + 5
text_size name = omega (arith, length-append name (0 ∷ []))

pub binary_size : (subtype : ℕ) (contents : List ℕ)
    → length (value_bytes (binary subtype contents)) ≡ length contents + 5
binary_size subtype contents = omega arith

-- an array of fewer than 10,000 strings has at most 11 bytes for each, beside the strings
pub numbered_size : (i : ℕ) (names : List (List ℕ)) → i + length names ≤ 10000
    → length (items_bytes (numbered i names)) ≤ size_of names + 11 * length names
numbered_size i [] few = omega arith
numbered_size i (name ∷ names) few =
    omega (
      arith,
      few,
      element_size (decimal i) (text name) (numbered (i + 1) names),
      text_size name,
      length-decimal-le 4 i (omega arith) (omega (arith, few)) (omega (arith, few)),
      numbered_size (i + 1) names (omega (arith, few)),
    )

-- a name is no longer than the names together
pub first_size : (name : List ℕ) (names : List (List ℕ)) (n : ℕ) → size_of (name ∷ names) ≤ n → length name ≤ n
first_size name names n small = omega (arith, small)

pub names_size : (names : List (List ℕ)) (is : Items) → length names ≤ 1000
    → length (items_bytes (names_field names is)) ≤ size_of names + 11100 + length (items_bytes is)
names_size [] is few = omega arith
names_size (name ∷ names) is few =
    omega (
      arith,
      few,
      element_size (codes "keyAltNames") (node 0x04 (numbered 0 (name ∷ names))) is,
      framed_size (items_bytes (numbered 0 (name ∷ names))),
      numbered_size 0 (name ∷ names) (omega (arith, few)),
    )

pub history_size : (created updated status : ℕ) → length (items_bytes (history created updated status)) ≡ 90
history_size created updated status = omega arith

-- the fields of a key document
pub fields_size : (key : KeyDoc) (created updated status : ℕ) → length key.id ≡ 16 → length key.names ≤ 1000
    → size_of key.names + length key.material ≤ 16000000
    → length (items_bytes (key_fields key created updated status)) ≤ 16020000
unfolding key_fields
fields_size key created updated status long few small =
    let last = history created updated status in
    let second = item (codes "keyMaterial") (binary 0 key.material) last in
    omega (
      arith,
      long,
      few,
      small,
      element_size (codes "_id") (binary 4 key.id) (names_field key.names second),
      binary_size 4 key.id,
      names_size key.names second few,
      element_size (codes "keyMaterial") (binary 0 key.material) last,
      binary_size 0 key.material,
      history_size created updated status,
    )
