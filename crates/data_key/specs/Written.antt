-- MongoDB Client Side Encryption, "Key vault": a key document as it is written
use Rattle.std.specs.Prelude.{◌≡◌, ◌+◌, ◌≤◌, ℕ, List, [], ◌∷◌, length, codes, decimal, Ok}
use Rattle.std.specs.Int.{to_le_bytes, w32, w64}
use Rattle.bson_tree.specs.Tree.{Tree, Items, leaf, node, no_items, item}
use Rattle.bson_codec.specs.Layout.{string_bytes, binary_bytes}
use Rattle.bson_codec.specs.Reading.{document}
use Rattle.data_key.specs.declared.key_doc.KeyDoc.{KeyDoc}
use Rattle.data_key.specs.declared.key_doc.Provider.TheVariants as providers
use Rattle.data_key.specs.Key.{key_in}

-- BSON 1.1: a string (02)
abbrev pub text : List ℕ → Tree
text name = leaf 0x02 (string_bytes name)

-- BSON 1.1: a binary (05) of a subtype
abbrev pub binary : ℕ → List ℕ → Tree
binary subtype contents = leaf 0x05 (binary_bytes subtype contents)

-- BSON 1.1: a UTC datetime (09), by the 64 bits of its milliseconds
abbrev pub date : ℕ → Tree
date ms = leaf 0x09 (to_le_bytes w64 ms)

-- BSON 1.1: a 32-bit integer (10), by its bits
abbrev pub int : ℕ → Tree
int n = leaf 0x10 (to_le_bytes w32 n)

-- BSON 1.1, "array": strings under the decimal numbers from i on
abbrev pub numbered : ℕ → List (List ℕ) → Items
numbered i [] = no_items
numbered i (name ∷ names) = item (decimal i) (text name) (numbered (i + 1) names)

-- `keyAltNames`, only where there are names
abbrev pub names_field : List (List ℕ) → Items → Items
names_field [] is = is
names_field (name ∷ names) is = item (codes "keyAltNames") (node 0x04 (numbered 0 (name ∷ names))) is

-- the provider of the user's master key
abbrev pub local_key : Tree
local_key = node 0x03 (item (codes "provider") (text (codes "local")) no_items)

-- when the key was made and changed, its status, and who holds its master key
abbrev pub history : ℕ → ℕ → ℕ → Items
history created updated status =
    item (codes "creationDate") (date created)
    (item (codes "updateDate") (date updated)
    (item (codes "status") (int status)
    (item (codes "masterKey") local_key no_items)))

-- the fields of a key document
unfoldable pub key_fields : KeyDoc → ℕ → ℕ → ℕ → Items
key_fields key created updated status =
    item (codes "_id") (binary 4 key.id)
    (names_field key.names
    (item (codes "keyMaterial") (binary 0 key.material) (history created updated status)))

-- how many bytes names have together
abbrev pub size_of : List (List ℕ) → ℕ
size_of [] = 0
size_of (name ∷ names) = length name + size_of names

-- a key under the user's master key, with at most 1,000 names and 16,000,000 bytes of names and material
pub record IsWritable (key : KeyDoc) : Type 0 where
  pub local : key.provider ≡ providers.Local
  pub few : length key.names ≤ 1000
  pub small : size_of key.names + length key.material ≤ 16000000

-- the bytes are those of a document that says exactly this key
pub record ReadsBack (bytes : List ℕ) (key : KeyDoc) : Type 0 where
  pub fields : Items
  pub read : document bytes ≡ Ok fields
  pub says : key_in fields ≡ Ok key
