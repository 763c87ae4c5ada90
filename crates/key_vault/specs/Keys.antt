-- MongoDB Client Side Encryption, "Key vault": keys by id and by alternate name
use Rattle.std.specs.Prelude.{◌≡◌, ℕ, ◌+◌, Bool, true, false, ◌||◌, List, [], ◌∷◌, Option, Some, None, bytes_eq}
use Rattle.std.specs.Prelude.{if◌then◌else◌}
use Rattle.data_key.specs.declared.key_doc.KeyDoc.{KeyDoc}

-- a name stands among these
abbrev pub is_among : List ℕ → List (List ℕ) → Bool
is_among name [] = false
is_among name (other ∷ others) = bytes_eq name other || is_among name others

-- the key has this id
abbrev pub has_id : List ℕ → KeyDoc → Bool
has_id id key = bytes_eq key.id id

-- the key has this name
abbrev pub has_name : List ℕ → KeyDoc → Bool
has_name name key = is_among name key.names

-- the first key that passes a test
abbrev pub first_key : (KeyDoc → Bool) → List KeyDoc → Option KeyDoc
first_key test [] = None
first_key test (key ∷ keys) = if test key then Some key else first_key test keys

-- its number among keys that are counted from n on
abbrev pub place_from : ℕ → (KeyDoc → Bool) → List KeyDoc → Option ℕ
place_from n test [] = None
place_from n test (key ∷ keys) = if test key then Some n else place_from (n + 1) test keys

-- the first key of an id
abbrev pub key_by_id : List KeyDoc → List ℕ → Option KeyDoc
key_by_id keys id = first_key (has_id id) keys

-- the first key of a name
abbrev pub key_by_name : List KeyDoc → List ℕ → Option KeyDoc
key_by_name keys name = first_key (has_name name) keys

-- no two keys have one id, and no two one name
abbrev pub AreDistinct : List KeyDoc → Type 0
AreDistinct [] = Unit {0}
AreDistinct (key ∷ keys) =
    (key_by_id keys key.id ≡ None)
    × ((name : List ℕ) → has_name name key ≡ true → key_by_name keys name ≡ None)
    × AreDistinct keys
