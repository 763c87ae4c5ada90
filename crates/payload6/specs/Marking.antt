-- MongoDB Client Side Encryption, BSON binary subtype 6, intent-to-encrypt marking: the value with its
-- algorithm and what names its key, for who seals it
use Rattle.std.specs.Prelude.{ℕ, List, [], ◌∷◌, ◌++◌, length, codes, replicate}
use Rattle.std.specs.Int.{to_le_bytes, w32}
use Rattle.bson_tree.specs.Tree.{Tree, Items, leaf, no_items, item}
use Rattle.bson_tree.specs.Spelling.{doc_bytes}
use Rattle.bson_codec.specs.Layout.{string_bytes}
use Rattle.encrypt_schema.specs.declared.schema.policy.Algorithm.{Algorithm}
use Rattle.encrypt_schema.specs.declared.schema.policy.KeyRef.{KeyRef}
use Rattle.encrypt_schema.specs.declared.schema.policy.KeyRef.TheVariants as keys
use Rattle.payload6.specs.Needs.{Need, Id, Name}
use Rattle.payload6.specs.Payload.{algorithm_number}

-- the 16 bytes of a rule's key id; 00s for a pointer, where a key has to have an id
abbrev pub key_id : KeyRef → List ℕ
key_id (keys.Id bytes) = bytes
key_id (keys.Pointer names) = replicate 16 0

-- a binary of this subtype
abbrev pub binary : ℕ → List ℕ → Tree
binary subtype contents = leaf 5 (to_le_bytes w32 (length contents) ++ (subtype ∷ contents))

-- the field that names the key: `ki` for an id, `ka` for an alternate name
abbrev pub key_name : Need → List ℕ
key_name (Id id) = codes "ki"
key_name (Name name) = codes "ka"

-- its value: a binary of subtype 04 (UUID), or a string
abbrev pub key_value : Need → Tree
key_value (Id id) = binary 4 id
key_value (Name name) = leaf 2 (string_bytes name)

-- the marking's document: the value `v`, the algorithm `a`, and `ki` or `ka`
unfoldable pub marking_fields : Algorithm → Need → Tree → Items
marking_fields algorithm need t =
    item (codes "v") t
    (item (codes "a") (leaf 16 (algorithm_number algorithm ∷ 0 ∷ 0 ∷ 0 ∷ []))
    (item (key_name need) (key_value need) no_items))

-- its bytes: 00 and the document
abbrev pub marking : Algorithm → Need → Tree → List ℕ
marking algorithm need t = 0 ∷ doc_bytes (marking_fields algorithm need t)
