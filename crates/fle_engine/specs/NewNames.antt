-- MongoDB Client Side Encryption, "keyAltNames": the names that a new key is to have, in a document.
use Rattle.std.specs.Prelude.{◌≡◌, ℕ, List, [], ◌∷◌, map, string_bytes, Option, Some, None, Result, Ok, Err, Vec}
use Rattle.std.specs.Prelude.{String, bytes_eq, codes, if◌then◌else◌}
use Rattle.std.specs.Global.{Global}
use Rattle.std.specs.Str.{is_utf8}
use Rattle.bson_codec.specs.Values.{is_array_value, text_value}
use Rattle.bson_tree.specs.Tree.{Tree, Items, no_items, item, kids_of}
use Rattle.fle_words.specs.Words.{are_names}
use Rattle.fle_engine.specs.declared.key_stop.KeyStop.{KeyStop}
use Rattle.fle_engine.specs.declared.key_stop.KeyStop.TheVariants as key_stops

-- a text of UTF-8
abbrev pub utf8_text : Option (List ℕ) → Option (List ℕ)
utf8_text None = None
utf8_text (Some text) = if is_utf8 text then Some text else None

-- a text, then the others
abbrev pub and_texts : Option (List ℕ) → Option (List (List ℕ)) → Option (List (List ℕ))
and_texts None others = None
and_texts (Some text) None = None
and_texts (Some text) (Some others) = Some (text ∷ others)

-- the texts of values, each a string of UTF-8
abbrev pub texts_in : Items → Option (List (List ℕ))
texts_in no_items = Some []
texts_in (item name t is) = and_texts (utf8_text (text_value t)) (texts_in is)

-- the texts of an array
abbrev pub array_texts : Tree → Option (List (List ℕ))
array_texts t = if is_array_value t then texts_in (kids_of t) else None

-- the names in an element, which is `keyAltNames`
abbrev pub named_texts : List ℕ → Tree → Option (List (List ℕ))
named_texts name t = if bytes_eq name (codes "keyAltNames") then array_texts t else None

-- the names in a document: none where it is empty, else those of its only element
abbrev pub names_said : Items → Option (List (List ℕ))
names_said no_items = Some []
names_said (item name t no_items) = named_texts name t
names_said (item name t (item other u is)) = None

-- the same where `keygen` accepts them
abbrev pub accepted_names : Option (List (List ℕ)) → Option (List (List ℕ))
accepted_names None = None
accepted_names (Some names) = if are_names names then Some names else None

-- the names of a new key in a document `{keyAltNames: [..]}` or `{}`: such as `keygen` accepts
unfoldable pub new_names : Items → Option (List (List ℕ))
new_names d = accepted_names (names_said d)

-- what was read is what is there; want of memory may come at any time
abbrev pub TextsAre : Option (List (List ℕ)) → Result (Vec (String Global) Global) KeyStop → Type 0
TextsAre there (Ok texts) = there ≡ Some (map string_bytes texts.items)
TextsAre there (Err key_stops.Names) = there ≡ None
TextsAre there (Err key_stops.Memory) = Unit {0}
TextsAre there (Err _) = ⊥
