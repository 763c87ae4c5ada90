-- MongoDB `find` and `listCollections`: the filters by which a caller looks for what a context needs
use Rattle.std.specs.Prelude.{ℕ, ◌+◌, List, [], ◌∷◌, codes, decimal, length, map}
use Rattle.bson_tree.specs.Spelling.{doc_bytes}
use Rattle.bson_tree.specs.Tree.{Tree, Items, leaf, node, no_items, item}
use Rattle.bson_codec.specs.Layout.{string_bytes, binary_bytes}
use Rattle.payload6.specs.Needs.{Need, Id, Name}
use Rattle.context_machine.specs.Needs.{NeedAt, ids_of, names_of}
use Rattle.context_machine.specs.declared.keys_asked.Choice.{Choice}
use Rattle.context_machine.specs.declared.keys_asked.Choice.TheVariants as choices

-- BSON 1.1: a string (02)
abbrev pub text : List ℕ → Tree
text name = leaf 0x02 (string_bytes name)

-- BSON 1.1: a UUID, a binary (05) of subtype 04
abbrev pub uuid : List ℕ → Tree
uuid id = leaf 0x05 (binary_bytes 0x04 id)

-- `{name: collection}`: the infos of a collection
unfoldable pub collection_filter : List ℕ → Items
collection_filter name = item (codes "name") (text name) no_items

-- BSON 1.1, "array": values under the decimal numbers from i on
abbrev pub numbered : ℕ → List Tree → Items
numbered i [] = no_items
numbered i (value ∷ values) = item (decimal i) value (numbered (i + 1) values)

-- `field: {$in: [values]}`
abbrev pub among : List ℕ → List Tree → Items
among field values =
    item field (node 0x03 (item (codes "$in") (node 0x04 (numbered 0 values)) no_items)) no_items

-- `{$or: [{_id: {$in: [ids]}}, {keyAltNames: {$in: [names]}}]}`: the keys of these ids and of these alternate names
unfoldable pub key_filter : List (List ℕ) → List (List ℕ) → Items
key_filter ids names = item (codes "$or") (node 0x04
    (item (codes "0") (node 0x03 (among (codes "_id") (map uuid ids)))
    (item (codes "1") (node 0x03 (among (codes "keyAltNames") (map text names))) no_items))) no_items

-- the bytes of the filter of the keys that are needed; no byte where none is
abbrev pub filter_of : List NeedAt → List ℕ
filter_of [] = []
filter_of (n ∷ ns) = doc_bytes (key_filter (ids_of (n ∷ ns)) (names_of (n ∷ ns)))

-- how the code writes them: what one of the two lists has
abbrev pub listed : Choice → List NeedAt → List Tree
listed choices.Ids ns = map uuid (ids_of ns)
listed choices.Names ns = map text (names_of ns)

-- at least as many bytes as a need takes in one of the lists; none where it isn't there
abbrev pub room_in : Choice → Need → ℕ
room_in choices.Ids (Id id) = 63
room_in choices.Ids (Name name) = 0
room_in choices.Names (Id id) = 0
room_in choices.Names (Name name) = 63 + length name

-- the same of all needs
abbrev pub room_for : Choice → List NeedAt → ℕ
room_for choice [] = 0
room_for choice (n ∷ ns) = room_in choice n.need + room_for choice ns

-- what one need has in one of the lists
abbrev pub listed_one : Choice → Need → List Tree
listed_one choices.Ids (Id id) = uuid id ∷ []
listed_one choices.Ids (Name name) = []
listed_one choices.Names (Id id) = []
listed_one choices.Names (Name name) = text name ∷ []
