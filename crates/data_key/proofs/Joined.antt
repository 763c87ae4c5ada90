-- The fields of a key document, one behind the other.
use Rattle.std.proofs.Common.{◌≡◌, ◌∙◌, ◌+◌, ◌^◌, ◌<◌, ◌≤◌, ℕ, List, [], ◌∷◌, ◌++◌, length, refl, sym, ap, arith}
use Rattle.std.proofs.Common.{length-append}
use Rattle.std.specs.Prelude.{codes}
use Rattle.bson_tree.specs.Tree.{Items, node, no_items, item}
use Rattle.bson_tree.specs.Spelling.{framed, items_bytes, doc_bytes}
use Rattle.std.proofs.lemmas.List.{append_assoc, append-nil}
use Rattle.data_key.specs.declared.key_doc.KeyDoc.{KeyDoc}
use Rattle.data_key.specs.Written.{binary, date, int, local_key, numbered, size_of, names_field, history, key_fields}
use Rattle.data_key.proofs.Frames.{one_item, four}
use Rattle.data_key.proofs.Sizes.{numbered_size, fields_size}

-- the names, and the fields behind them
names_then : (names : List (List ℕ)) (is : Items)
    → items_bytes (names_field names is) ≡ items_bytes (names_field names no_items) ++ items_bytes is
names_then [] is = refl
names_then (name ∷ names) is = one_item (codes "keyAltNames") (node 0x04 (numbered 0 (name ∷ names))) is

pub put_history : (created updated status : ℕ) (old a b c d : List ℕ)
    → a ≡ old ++ items_bytes (item (codes "creationDate") (date created) no_items)
    → b ≡ a ++ items_bytes (item (codes "updateDate") (date updated) no_items)
    → c ≡ b ++ items_bytes (item (codes "status") (int status) no_items)
    → d ≡ c ++ items_bytes (item (codes "masterKey") local_key no_items)
    → d ≡ old ++ items_bytes (history created updated status)
put_history created updated status old a b c d p q r s =
    let last = item (codes "masterKey") local_key no_items in
    let third = item (codes "status") (int status) last in
    let second = item (codes "updateDate") (date updated) third in
    let parts : items_bytes (history created updated status)
    ≡ items_bytes (item (codes "creationDate") (date created) no_items)
    ++ (items_bytes (item (codes "updateDate") (date updated) no_items)
    ++ (items_bytes (item (codes "status") (int status) no_items) ++ items_bytes last)) =
    one_item (codes "creationDate") (date created) second
    ∙ ap (λ (x : List ℕ). items_bytes (item (codes "creationDate") (date created) no_items) ++ x)
    (one_item (codes "updateDate") (date updated) third
    ∙ ap (λ (x : List ℕ). items_bytes (item (codes "updateDate") (date updated) no_items) ++ x)
    (one_item (codes "status") (int status) last)) in
    four old a b c d _ _ _ _ p q r s ∙ ap (λ (x : List ℕ). old ++ x) (sym parts)

pub put_fields : (key : KeyDoc) (names : List (List ℕ)) (material : List ℕ) (created updated status : ℕ)
    (old a b c d : List ℕ)
    → names ≡ key.names → material ≡ key.material
    → a ≡ old ++ items_bytes (item (codes "_id") (binary 4 key.id) no_items)
    → b ≡ a ++ items_bytes (names_field names no_items)
    → c ≡ b ++ items_bytes (item (codes "keyMaterial") (binary 0 material) no_items)
    → d ≡ c ++ items_bytes (history created updated status)
    → d ≡ old ++ items_bytes (key_fields key created updated status)
unfolding key_fields
put_fields key names material created updated status old a b c d same_names same_material p q r s =
    let last = history created updated status in
    let third = item (codes "keyMaterial") (binary 0 key.material) last in
    let parts : items_bytes (key_fields key created updated status)
    ≡ items_bytes (item (codes "_id") (binary 4 key.id) no_items)
    ++ (items_bytes (names_field key.names no_items)
    ++ (items_bytes (item (codes "keyMaterial") (binary 0 key.material) no_items) ++ items_bytes last)) =
    one_item (codes "_id") (binary 4 key.id) (names_field key.names third)
    ∙ ap (λ (x : List ℕ). items_bytes (item (codes "_id") (binary 4 key.id) no_items) ++ x)
    (names_then key.names third ∙ ap (λ (x : List ℕ). items_bytes (names_field key.names no_items) ++ x)
    (one_item (codes "keyMaterial") (binary 0 key.material) last)) in
    let q' : b ≡ a ++ items_bytes (names_field key.names no_items) =
    q ∙ ap (λ (ns : List (List ℕ)). a ++ items_bytes (names_field ns no_items)) same_names in
    let r' : c ≡ b ++ items_bytes (item (codes "keyMaterial") (binary 0 key.material) no_items) =
    r ∙ ap (λ (m : List ℕ). b ++ items_bytes (item (codes "keyMaterial") (binary 0 m) no_items)) same_material in
    four old a b c d _ _ _ _ p q' r' s ∙ ap (λ (x : List ℕ). old ++ x) (sym parts)

-- the array of names is short enough for its length
pub names_room : (names : List (List ℕ)) (old a b c : List ℕ) → length names ≤ 1000 → size_of names ≤ 16000000
    → length old < 2 ^ 30 + 100
    → a ≡ old ++ (4 ∷ (codes "keyAltNames" ++ 0 ∷ [])) → b ≡ a ++ (0 ∷ (0 ∷ (0 ∷ (0 ∷ []))))
    → c ≡ b ++ items_bytes (numbered 0 names)
    → length c < 2 ^ 31
names_room names old a b c few small room p q r =
    omega (
      arith,
      few,
      small,
      room,
      ap length p,
      ap length q,
      ap length r,
      length-append old (4 ∷ (codes "keyAltNames" ++ 0 ∷ [])),
      length-append a (0 ∷ (0 ∷ (0 ∷ (0 ∷ [])))),
      length-append b (items_bytes (numbered 0 names)),
      numbered_size 0 names (omega (arith, few)),
    )

pub put_names : (names : List (List ℕ)) (old a new : List ℕ) → 0 < length names
    → a ≡ old ++ (4 ∷ (codes "keyAltNames" ++ 0 ∷ []))
    → new ≡ a ++ framed (items_bytes (numbered 0 names)) → new ≡ old ++ items_bytes (names_field names no_items)
put_names [] old a new some p q = absurd (omega (arith, some))
put_names (name ∷ names) old a new some p q =
    let array = items_bytes (numbered 0 (name ∷ names)) in
    let same : framed array ≡ framed array ++ [] = sym (append-nil (framed array)) in
    q ∙ ap (λ (x : List ℕ). x ++ framed array) p ∙ append_assoc old (4 ∷ (codes "keyAltNames" ++ 0 ∷ [])) (framed array)
    ∙ ap (λ (x : List ℕ). old ++ (4 ∷ (codes "keyAltNames" ++ (0 ∷ x)))) same

-- what a key document holds so far is short enough for its length
pub fields_room : (key : KeyDoc) (created updated status : ℕ) (a b : List ℕ) → length key.id ≡ 16
    → length key.names ≤ 1000
    → size_of key.names + length key.material ≤ 16000000 → length a ≡ 4
    → b ≡ a ++ items_bytes (key_fields key created updated status)
    → length b < 2 ^ 31
fields_room key created updated status a b long few small four p =
    omega (
      arith,
      four,
      ap length p,
      length-append a (items_bytes (key_fields key created updated status)),
      fields_size key created updated status long few small,
    )

-- a document of these fields, once its length is put in
pub document_written : (key : KeyDoc) (created updated status created' updated' status' : ℕ) (a b x : List ℕ)
    → a ≡ 0 ∷ (0 ∷ (0 ∷ (0 ∷ []))) → b ≡ a ++ items_bytes (key_fields key created updated status)
    → ((front elements : List ℕ) → length front ≡ 0 → b ≡ front ++ (0 ∷ (0 ∷ (0 ∷ (0 ∷ elements))))
    → x ≡ front ++ framed elements)
    → created ≡ created' → updated ≡ updated' → status ≡ status'
    → x ≡ doc_bytes (key_fields key created' updated' status')
document_written key created updated status created' updated' status' a b x four fields closed p q r =
    let all = items_bytes (key_fields key created updated status) in
    closed [] all refl (fields ∙ ap (λ (y : List ℕ). y ++ all) four)
    ∙ ap (λ (n : ℕ). doc_bytes (key_fields key n updated status)) p
    ∙ ap (λ (n : ℕ). doc_bytes (key_fields key created' n status)) q
    ∙ ap (λ (n : ℕ). doc_bytes (key_fields key created' updated' n)) r
