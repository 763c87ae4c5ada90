-- `demo DB N`: the commands that are sealed, and the collection that they insert into.
use Rattle.std.specs.Prelude.{ℕ, ◌+◌, ◌/◌, ◌%◌, ◌^◌, List, [], ◌∷◌, codes, Result, Ok, Err}
use Rattle.bson_tree.specs.Tree.{Tree, Items, node, no_items, item}
use Rattle.data_key.specs.Written.{binary, int, text}
use Rattle.encrypt_schema.specs.Language.Collection.{Collection}
use Rattle.encrypt_schema.specs.Language.Collections.{collection_in}
use Rattle.encrypt_schema.specs.Language.Row.{Row}
use Rattle.encrypt_schema.specs.declared.schema.faults.InfoKind.{InfoKind}
use Rattle.fle_demo.specs.Generator.{after_two, next_output}

-- a document (03) or an array (04) with one element
abbrev pub single : ℕ → List ℕ → Tree → Tree
single tag name t = node tag (item name t no_items)

-- `[id]`
abbrev pub key_ids : List ℕ → Tree
key_ids id = single 4 (codes "0") (binary 4 id)

-- `{keyId: [id], algorithm: .., bsonType: "string"}`
abbrev pub deterministic : List ℕ → Tree
deterministic id = node 3
    (item (codes "keyId") (key_ids id)
    (item (codes "algorithm") (text (codes "AEAD_AES_256_CBC_HMAC_SHA_512-Deterministic"))
    (item (codes "bsonType") (text (codes "string")) no_items)))

-- `{keyId: [id], algorithm: ..}`
abbrev pub random : List ℕ → Tree
random id = node 3
    (item (codes "keyId") (key_ids id)
    (item (codes "algorithm") (text (codes "AEAD_AES_256_CBC_HMAC_SHA_512-Random")) no_items))

-- `ssn` is deterministic and a string, `salary` random and of any type
abbrev pub properties : List ℕ → Items
properties id =
    item (codes "ssn") (single 3 (codes "encrypt") (deterministic id))
    (item (codes "salary") (single 3 (codes "encrypt") (random id)) no_items)

-- `{bsonType: "object", properties: ..}`
abbrev pub schema : List ℕ → Items
schema id =
    item (codes "bsonType") (text (codes "object")) (item (codes "properties") (node 3 (properties id)) no_items)

-- MongoDB `listCollections`: the info of the collection `demo`, whose schema names the key of this id
unfoldable pub info : List ℕ → Items
info id =
    item (codes "name") (text (codes "demo"))
    (item (codes "type") (text (codes "collection"))
    (item (codes "options") (single 3 (codes "validator") (single 3 (codes "$jsonSchema") (node 3 (schema id))))
    no_items))

-- the rules of a collection that was read
abbrev pub rows_read : Result Collection InfoKind → List Row
rows_read (Ok collection) = collection.rows
rows_read (Err kind) = []

-- the rules that the info states
unfoldable pub rules : List ℕ → List Row
rules id = rows_read (collection_in [] (info id))

-- the digit of a number that counts so much
abbrev pub digit : ℕ → ℕ → ℕ
digit n unit = 48 + n / unit % 10

-- nine digits as ddd-dd-dddd
abbrev pub ssn_text : ℕ → List ℕ
ssn_text n =
    digit n 100000000 ∷ digit n 10000000 ∷ digit n 1000000
    ∷ 45 ∷ digit n 100000 ∷ digit n 10000
    ∷ 45 ∷ digit n 1000 ∷ digit n 100 ∷ digit n 10 ∷ digit n 1
    ∷ []

-- the number of nine digits that an output makes
abbrev pub ssn_of : ℕ → ℕ
ssn_of output = output / 2 ^ 33 % 1000000000

-- the salary below 2^31 that an output makes
abbrev pub salary_of : ℕ → ℕ
salary_of output = output / 2 ^ 33

-- `{ssn: .., salary: int, n: int}`
abbrev pub person : Tree → Tree → Tree → Tree
person ssn salary number = node 3
    (item (codes "ssn") ssn (item (codes "salary") salary (item (codes "n") number no_items)))

-- `{insert: "demo", documents: [person], $db: DB}`
abbrev pub insert : List ℕ → Tree → Items
insert db t =
    item (codes "insert") (text (codes "demo"))
    (item (codes "documents") (single 4 (codes "0") t)
    (item (codes "$db") (text db) no_items))

-- command i, of the two outputs behind x
unfoldable pub command : List ℕ → ℕ → ℕ → Items
command db i x =
    insert db (person (text (ssn_text (ssn_of (next_output x)))) (int (salary_of (after_two x))) (int i))
