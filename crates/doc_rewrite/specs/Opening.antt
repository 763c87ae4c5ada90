-- What is written while a document is opened
use Rattle.std.specs.Prelude.{◌≡◌, ℕ, ◌+◌, ◌-◌, ◌*◌, ◌≤◌, Some, None, Result, Ok, Err, List, ◌++◌, length, take}
use Rattle.bson_tree.specs.Tree.{Items, item, no_items}
use Rattle.bson_tree.specs.Spelling.{value_bytes, items_bytes, doc_bytes}
use Rattle.bson_tree.specs.Filled.{fill_tree}
use Rattle.bson_codec.specs.Borrowed.{At, Elem}
use Rattle.payload6.specs.Verdicts.{wrong, value_in}
use Rattle.doc_rewrite.specs.declared.found.FoundAt.{FoundAt}
use Rattle.doc_rewrite.specs.declared.unsealing.Spot.{Spot}
use Rattle.doc_rewrite.specs.Founds.{Place, opened_value, opened_items}
use Rattle.doc_rewrite.specs.Opened.{Keyring, first_wrong, opened, opened_whole, spoilt, value_of}

-- MongoDB Client Side Encryption, BSON binary subtype 6: beside the value a payload has 18 bytes of its head, an IV
-- of 16, a tag of 32 and one or more of padding, and 5 of its binary before it, so that its value is shorter by so many
abbrev pub spared : ℕ
spared = 72

-- room enough to open a document with these payloads, each but one of which spares its bytes: the last one is opened
-- with its padding
abbrev pub room_to_open : At → List FoundAt → ℕ
room_to_open d fs = length (doc_bytes d.tree) - spared * (length fs - 1)

-- behind `at` there is room, of so many bytes in all, for what has `most` bytes less those that these payloads spare,
-- and for 72 more, which the one that is being opened has spared only when it is open
abbrev pub Fits : ℕ → ℕ → List Place → ℕ → Type 0
Fits at most ps size = at + most + spared ≤ size + spared * length ps

-- the value of a payload was put behind `at`, in at least 49 bytes less than so many; or the payload isn't opened
abbrev pub ValueOpens : List ℕ → ℕ → List ℕ → ℕ → List ℕ → List ℕ → ℕ → ℕ → Result ℕ Spot → Type 0
ValueOpens key levels contents start old new at most (Ok end) =
    (wrong key levels contents ≡ None) × (take end new ≡ take at old ++ value_bytes (value_in key contents))
    × (end + 49 ≤ at + most)
ValueOpens key levels contents start old new at most (Err spot) =
    (wrong key levels contents ≡ Some spot.reason) × (spot.at ≡ start)

-- `made` was put behind `at`, and these payloads are opened, each sparing its bytes of so many; or one of them is the
-- first that isn't
abbrev pub OpensAs : Keyring → List Place → List ℕ → List ℕ → List ℕ → ℕ → ℕ → Result ℕ Spot → Type 0
OpensAs keys ps made old new at most (Ok end) =
    (first_wrong (spoilt keys) ps ≡ None) × (take end new ≡ take at old ++ made)
    × (end + spared * length ps ≤ at + most)
OpensAs keys ps made old new at most (Err spot) =
    first_wrong (spoilt keys) ps ≡ Some (record { reason = spot.reason; at = spot.at })

-- the bytes of an element
abbrev pub element_bytes : Elem → List ℕ
element_bytes e = items_bytes (item e.name e.tree no_items)

-- the bytes of an element with its payloads opened
abbrev pub element_opened : Keyring → Elem → List ℕ
element_opened keys e = items_bytes (item e.name (fill_tree (opened_value (value_of keys)) e.start e.tree) no_items)

-- those of elements that begin at an offset
abbrev pub elements_opened : Keyring → ℕ → Items → List ℕ
elements_opened keys at is = items_bytes (opened_items (value_of keys) at is)

-- those of a document
abbrev pub document_opened : Keyring → At → List ℕ
document_opened keys d = doc_bytes (opened_whole keys d)

-- the first `n` bytes are the opened document; or it is refused at this payload
abbrev pub OpensWhole : Keyring → At → List ℕ → Result ℕ Spot → Type 0
OpensWhole keys d new (Ok n) =
    (opened keys d ≡ Ok (opened_whole keys d)) × (n ≡ length (document_opened keys d))
    × (take n new ≡ document_opened keys d)
OpensWhole keys d new (Err spot) = opened keys d ≡ Err (record { reason = spot.reason; at = spot.at })
