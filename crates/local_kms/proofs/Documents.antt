-- New keys: how long their documents are.
use Rattle.std.proofs.Common.{◌≡◌, ℕ, List, [], ◌∷◌, length, arith}
use Rattle.std.specs.Prelude.{codes}
use Rattle.bson_tree.specs.Tree.{Items, node, item}
use Rattle.bson_tree.specs.Spelling.{doc_bytes, items_bytes}
use Rattle.bson_tree.proofs.Sizes.{element_size, framed_size}
use Rattle.data_key.specs.Written.{binary, history, key_fields, names_field, numbered}
use Rattle.data_key.specs.declared.key_doc.KeyDoc.{KeyDoc}
use Rattle.data_key.proofs.Sizes.{binary_size}
use Rattle.local_kms.specs.Document.{blank_key, document_size}

-- names stand before fields of one length or another
names_size : (names : List (List ℕ)) (is js : Items) → length (items_bytes is) ≡ length (items_bytes js)
    → length (items_bytes (names_field names is)) ≡ length (items_bytes (names_field names js))
names_size [] is js same = same
names_size (name ∷ names) is js same =
    omega (
      arith,
      same,
      element_size (codes "keyAltNames") (node 0x04 (numbered 0 (name ∷ names))) is,
      element_size (codes "keyAltNames") (node 0x04 (numbered 0 (name ∷ names))) js,
    )

-- a key's document is as long as that of a key of zeros
pub document_long : (key : KeyDoc) (now : ℕ) → length key.id ≡ 16 → length key.material ≡ 160
    → length (doc_bytes (key_fields key now now 0)) ≡ document_size key.names now
unfolding key_fields
document_long key now sixteen long =
    let blank = blank_key key.names in
    let last = history now now 0 in
    let ours = item (codes "keyMaterial") (binary 0 key.material) last in
    let zeros = item (codes "keyMaterial") (binary 0 blank.material) last in
    let behind : length (items_bytes ours) ≡ length (items_bytes zeros) =
    omega (
      arith,
      long,
      element_size (codes "keyMaterial") (binary 0 key.material) last,
      element_size (codes "keyMaterial") (binary 0 blank.material) last,
      binary_size 0 key.material,
      binary_size 0 blank.material,
    ) in
    omega (
      arith,
      sixteen,
      names_size key.names ours zeros behind,
      element_size (codes "_id") (binary 4 key.id) (names_field key.names ours),
      element_size (codes "_id") (binary 4 blank.id) (names_field key.names zeros),
      binary_size 4 key.id,
      binary_size 4 blank.id,
      framed_size (items_bytes (key_fields key now now 0)),
      framed_size (items_bytes (key_fields blank now now 0)),
    )
