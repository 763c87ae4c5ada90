-- The numbers of texts, each the id or a name of a key: the first text of a hash by the hash, the others by themselves
use Rattle.std.specs.Prelude.{◌<◌, ℕ, Bool, false, List, length, Option, Some, None, bytes_eq, is_some}
use Rattle.std.specs.Prelude.{if◌then◌else◌, slice_get, IfSome}
use Rattle.std.specs.BTreeMap.{BTreeMap, get_by}
use Rattle.std.specs.Ordering.{nat_cmp}
use Rattle.bson_tree.specs.NameNumbers.{hash_of, number_of_name}
use Rattle.data_key.specs.declared.key_doc.KeyDoc.{KeyDoc}
use Rattle.key_vault.specs.declared.numbers.Numbers.{Numbers}
use Rattle.key_vault.specs.declared.place.Place.{Place}

-- the id of a key, or the name of this number
abbrev pub text_of : Option ℕ → KeyDoc → Option (List ℕ)
text_of None key = Some key.id
text_of (Some name) key = slice_get key.names name

-- the same of a key that may not be there
abbrev pub text_in : Option ℕ → Option KeyDoc → Option (List ℕ)
text_in name None = None
text_in name (Some key) = text_of name key

-- the text at a place
abbrev pub text_at : List KeyDoc → Place → Option (List ℕ)
text_at keys place = text_in place.name (slice_get keys place.key)

-- there is a text, and it is this one
abbrev pub is_text : List ℕ → Option (List ℕ) → Bool
is_text text None = false
is_text text (Some other) = bytes_eq other text

-- the number of the key at the place of the first text of a hash, where this text stands there
abbrev pub number_of_first : List KeyDoc → List ℕ → Option Place → Option ℕ
number_of_first keys text None = None
number_of_first keys text (Some place) = if is_text text (text_at keys place) then Some place.key else None

-- the number of a text among those whose hash an earlier one has, or else as the first of its hash
abbrev pub or_first : List KeyDoc → List ℕ → Option ℕ → Option Place → Option ℕ
or_first keys text (Some number) first = Some number
or_first keys text None first = number_of_first keys text first

-- the place of the first text of a hash
abbrev pub first_of : BTreeMap ℕ Place → ℕ → Option Place
first_of firsts hash = get_by (nat_cmp hash) firsts

-- the number of a text of these keys
abbrev pub number_of : List KeyDoc → Numbers → List ℕ → Option ℕ
number_of keys numbers text =
    or_first keys text (number_of_name numbers.others text) (first_of numbers.firsts (hash_of text))

-- a text has a number
abbrev pub has_number : List KeyDoc → Numbers → List ℕ → Bool
has_number keys numbers text = is_some (number_of keys numbers text)

-- all places are of these keys
abbrev pub AreOf : List KeyDoc → Numbers → Type 0
AreOf keys numbers = (hash : ℕ) → IfSome (first_of numbers.firsts hash) (λ place. place.key < length keys)
