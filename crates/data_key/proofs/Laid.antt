-- A key document as it is written has a spelling.
use Rattle.std.proofs.Common.{◌≡◌, ◌^◌, ℕ, zero, suc, ◌+◌, ◌<◌, ◌≤◌, List, [], ◌∷◌}
use Rattle.std.proofs.Common.{length, map, refl, sym, subst, arith}
use Rattle.std.specs.Prelude.{codes, decimal, Ok}
use Rattle.std.proofs.lemmas.Fmt.{decimal_digit, decimal-digits_of}
use Rattle.std.specs.Int.Digits.{digits_of}
use Rattle.bson_tree.specs.Tree.{Items, node, no_items, item}
use Rattle.bson_tree.specs.Spelling.{items_bytes, doc_bytes}
use Rattle.bson_tree.proofs.Sizes.{framed_size}
use Rattle.bson_codec.specs.Layout.{IsName, IsValue, AreElements, IsItems}
use Rattle.bson_codec.specs.Reading.{document}
use Rattle.bson_codec.specs.Table.{layout_of}
use Rattle.bson_codec.proofs.PlainNames.{named}
use Rattle.bson_codec.proofs.Documents.{document_again}
use Rattle.data_key.specs.declared.key_doc.KeyDoc.{KeyDoc}
use Rattle.data_key.specs.Written.{text, binary, date, int, numbered, names_field, local_key, history, key_fields}
use Rattle.data_key.specs.Written.{size_of}
use Rattle.data_key.proofs.Sizes.{numbered_size, first_size, fields_size}

-- names of digits
digits_named : (ds : List ℕ) → IsName (map (λ d. 48 + d) ds)
digits_named [] = tt
digits_named (d ∷ ds) = (omega arith, digits_named ds)

decimal_named : (n : ℕ) → n < 2 ^ 64 → IsName (decimal n)
decimal_named zero small = subst IsName (sym (decimal_digit 0 (omega arith))) (omega arith, tt)
decimal_named (suc n) small = subst IsName (sym (decimal-digits_of (suc n) (omega arith) small))
    (digits_named (digits_of 10 (suc n)))

text_laid : (D : Items → Type 0) (name : List ℕ) → length name ≤ 16000000 → IsValue D (text name)
unfolding layout_of
text_laid D name small = record { text = name; fits = omega (arith, small); parts = refl }

binary_laid : (D : Items → Type 0) (subtype : ℕ) (contents : List ℕ) → length contents ≤ 16000000
    → IsValue D (binary subtype contents)
unfolding layout_of
binary_laid D subtype contents small = record {
  subtype = subtype;
  contents = contents;
  fits = omega (arith, small);
  parts = refl;
}

date_laid : (D : Items → Type 0) (ms : ℕ) → IsValue D (date ms)
unfolding layout_of
date_laid D ms = refl

int_laid : (D : Items → Type 0) (n : ℕ) → IsValue D (int n)
unfolding layout_of
int_laid D n = refl

document_laid : (D : Items → Type 0) (is : Items) → D is → length (doc_bytes is) < 2 ^ 31 → IsValue D (node 0x03 is)
unfolding layout_of
document_laid D is inside fits = record { inside = inside; fits = fits }

array_laid : (D : Items → Type 0) (is : Items) → D is → length (doc_bytes is) < 2 ^ 31 → IsValue D (node 0x04 is)
unfolding layout_of
array_laid D is inside fits = record { inside = inside; fits = fits }

numbered_laid : (D : Items → Type 0) (i : ℕ) (names : List (List ℕ)) → i + length names ≤ 10000
    → size_of names ≤ 16000000
    → AreElements D (numbered i names)
numbered_laid D i [] few small = tt
numbered_laid D i (name ∷ names) few small = (
  decimal_named i (omega (arith, few)),
  text_laid D name (first_size name names 16000000 small),
  numbered_laid D (i + 1) names (omega (arith, few)) (omega (arith, small)),
)

names_laid : (levels : ℕ) (names : List (List ℕ)) (is : Items) → length names ≤ 1000 → size_of names ≤ 16000000
    → IsItems (suc (suc levels)) is → IsItems (suc (suc levels)) (names_field names is)
names_laid levels [] is few small rest = rest
names_laid levels (name ∷ names) is few small rest =
    let array = numbered 0 (name ∷ names) in
    let fits : length (doc_bytes array) < 2 ^ 31 =
    omega (arith, few, small, framed_size (items_bytes array), numbered_size 0 (name ∷ names) (omega (arith, few))) in (
      named (codes "keyAltNames") refl,
      array_laid (IsItems (suc levels)) array (numbered_laid (IsItems levels) 0 (name ∷ names)
          (omega (arith, few)) small) fits,
      rest,
    )

local_laid : (levels : ℕ) → IsValue (IsItems (suc levels)) local_key
local_laid levels =
    document_laid (IsItems (suc levels)) (item (codes "provider") (text (codes "local")) no_items)
    (named (codes "provider") refl, text_laid (IsItems levels) (codes "local") (omega arith), tt) (omega arith)

history_laid : (levels : ℕ) (created updated status : ℕ) → IsItems (suc (suc levels)) (history created updated status)
history_laid levels created updated status = (
  named (codes "creationDate") refl,
  date_laid (IsItems (suc levels)) created,
  (
    named (codes "updateDate") refl,
    date_laid (IsItems (suc levels)) updated,
    (
      named (codes "status") refl,
      int_laid (IsItems (suc levels)) status,
      (named (codes "masterKey") refl, local_laid levels, tt),
    ),
  ),
)

fields_laid : (levels : ℕ) (key : KeyDoc) (created updated status : ℕ) → length key.id ≡ 16 → length key.names ≤ 1000
    → size_of key.names + length key.material ≤ 16000000
    → IsItems (suc (suc levels)) (key_fields key created updated status)
unfolding key_fields
fields_laid levels key created updated status long few small = (
  named (codes "_id") refl,
  binary_laid (IsItems (suc levels)) 4 key.id (omega (arith, long)),
  names_laid levels key.names (item (codes "keyMaterial") (binary 0 key.material) (history created updated status)) few
      (omega (arith, small)) (
        named (codes "keyMaterial") refl,
        binary_laid (IsItems (suc levels)) 0 key.material (omega (arith, small)),
        history_laid levels created updated status,
      ),
)

-- the document that is read from the bytes
pub document_is : (key : KeyDoc) (created updated status : ℕ) (bytes : List ℕ) → length key.id ≡ 16
    → length key.names ≤ 1000
    → size_of key.names + length key.material ≤ 16000000 → bytes ≡ doc_bytes (key_fields key created updated status)
    → document bytes ≡ Ok (key_fields key created updated status)
document_is key created updated status bytes long few small is =
    let fields = key_fields key created updated status in
    document_again bytes fields (record {
      inside = fields_laid 98 key created updated status long few small;
      fits = omega (arith, framed_size (items_bytes fields), fields_size key created updated status long few small);
    }) is
