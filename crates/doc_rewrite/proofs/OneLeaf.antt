-- A raw value of a document, opened where it is a payload.
use Rattle.std.proofs.Common.{◌≡◌, ◌∙◌, ℕ, ◌+◌, ◌≤◌, Bool, true, false, List, [], ◌∷◌, ◌++◌, length, take, Option, Some}
use Rattle.std.proofs.Common.{None, Result, Ok, Err, sym, ap, refl, arith, append_assoc, append-nil, length-append}
use Rattle.std.specs.Prelude.{unwrap_or, is_some, if◌then◌else◌}
use Rattle.std.proofs.lemmas.List.{length-drop}
use Rattle.bson_tree.specs.Tree.{Tree, leaf, item, no_items, tag_of}
use Rattle.bson_tree.specs.Spelling.{value_bytes, items_bytes}
use Rattle.bson_tree.specs.Filled.{fill_tree}
use Rattle.bson_tree.proofs.Sizes.{element_size}
use Rattle.bson_codec.specs.Borrowed.{Elem}
use Rattle.bson_codec.proofs.Items.{type_is as type_of_tree}
use Rattle.encrypt_schema.specs.Commands.Visits.{or_else, refused_at}
use Rattle.encrypt_schema.specs.declared.command.reason.Reason.{Reason}
use Rattle.encrypt_schema.specs.declared.command.reason.Reason.TheVariants as reasons
use Rattle.payload6.specs.Payload.{head, IsPayloadLength}
use Rattle.payload6.proofs.PayloadForm.{head-size}
use Rattle.payload6.specs.Verdicts.{id_in, type_in, plain_in, value_in}
use Rattle.payload6.proofs.Verdicts.{id_is, type_is}
use Rattle.doc_rewrite.specs.declared.unsealing.Spot.{Spot}
use Rattle.doc_rewrite.specs.Founds.{Place, contents_of, founds_in, is_sealed, opened_value, opens_here, place_of}
use Rattle.doc_rewrite.specs.Keys.{IdLookup}
use Rattle.doc_rewrite.specs.Opened.{first_wrong, found_or_missing, keyless, is_payload_length, misshapen, reason_in}
use Rattle.doc_rewrite.specs.Opened.{ring_of, spoilt, value_of}
use Rattle.doc_rewrite.specs.Opening.{OpensAs, ValueOpens, element_bytes, element_opened}
use Rattle.doc_rewrite.proofs.Finds.{length_not}
use Rattle.doc_rewrite.proofs.Walks.{none_found, one_found}

-- ---- what is asked of a single payload

unrefused : (at : ℕ) (reason : Option Reason) → or_else (refused_at at reason) None ≡ None → reason ≡ None
unrefused at None e = refl
unrefused at (Some reason) e = absurd cc

pub right_one : (judge : Place → Option Reason) (p : Place) → first_wrong judge (p ∷ []) ≡ None → judge p ≡ None
right_one judge p e = unrefused p.start (judge p) e

shape_wrong : (b : Bool) → b ≡ false → (if b then None else Some reasons.PayloadShape) ≡ None → ⊥
shape_wrong true off e = absurd cc
shape_wrong false off e = absurd cc

some_key : (o : Option (List ℕ)) → reason_in (found_or_missing o) ≡ None → is_some o ≡ true
some_key (Some key) e = refl
some_key None e = absurd cc

the_key : (o : Option (List ℕ)) → is_some o ≡ true → found_or_missing o ≡ Ok (unwrap_or o [])
the_key (Some key) e = refl
the_key None e = absurd cc

-- ---- what becomes of it

opened_leaf : (v : List ℕ → Tree) (at : ℕ) (t : Tree) (tag : ℕ) (bytes : List ℕ) → t ≡ leaf tag bytes
    → opens_here t ≡ true
    → fill_tree (opened_value v) at t ≡ v (contents_of t)
opened_leaf v at t tag bytes is on =
    let on' : is_sealed tag bytes ≡ true = sym (ap opens_here is) ∙ on in
    ap (fill_tree (opened_value v) at) is ∙ rw on' refl ∙ ap (λ (x : Tree). v (contents_of x)) (sym is)

kept_leaf : (v : List ℕ → Tree) (at : ℕ) (t : Tree) (tag : ℕ) (bytes : List ℕ) → t ≡ leaf tag bytes
    → opens_here t ≡ false
    → fill_tree (opened_value v) at t ≡ t
kept_leaf v at t tag bytes is off =
    let off' : is_sealed tag bytes ≡ false = sym (ap opens_here is) ∙ off in
    ap (fill_tree (opened_value v) at) is ∙ rw off' refl ∙ sym is

type_of_value : (key b : List ℕ) → tag_of (value_in key b) ≡ type_in b
unfolding value_in
type_of_value key b = type_of_tree (type_in b) (unwrap_or (plain_in key b) [])

module _ (keys : IdLookup) (levels : ℕ) (e : Elem) (tag : ℕ) (bytes : List ℕ) (raw : e.tree ≡ leaf tag bytes) where
  -- no payload
  pub leaf_passes : (at end : ℕ) (old new : List ℕ) → opens_here e.tree ≡ false
      → take end new ≡ take at old ++ element_bytes e
      → end ≡ at + length (element_bytes e)
      → OpensAs (ring_of keys) (founds_in levels e.start e.tree) (element_opened (ring_of keys) e) old new at
      (length (element_bytes e)) (Ok end)
  leaf_passes at end old new off written place =
      let same = kept_leaf (value_of (ring_of keys)) e.start e.tree tag bytes raw off in (
        ap (first_wrong (spoilt (ring_of keys))) (none_found levels e.start e.tree tag bytes raw off),
        written ∙ ap (λ (t : Tree). take at old ++ items_bytes (item e.name t no_items)) (sym same),
        omega (arith, place, ap length (none_found levels e.start e.tree tag bytes raw off)),
      )

  module _ (on : opens_here e.tree ≡ true) where
    here : founds_in levels e.start e.tree ≡ place_of levels e.start e.tree ∷ []
    here = one_found levels e.start e.tree tag bytes raw on

    pub leaf_shaped : (IsPayloadLength (length (contents_of e.tree)) → ⊥)
        → first_wrong misshapen (founds_in levels e.start e.tree) ≡ None → ⊥
    leaf_shaped short shaped =
        shape_wrong (is_payload_length (length (contents_of e.tree))) (length_not (length (contents_of e.tree)) short)
        (right_one misshapen (place_of levels e.start e.tree) (sym (ap (first_wrong misshapen) here) ∙ shaped))

    pub leaf_key : (id : List ℕ) → id_in (contents_of e.tree) ≡ id
        → first_wrong (keyless (ring_of keys)) (founds_in levels e.start e.tree) ≡ None
        → is_some (keys id) ≡ true
    leaf_key id is keyed =
        let right = right_one (keyless (ring_of keys)) (place_of levels e.start e.tree)
        (sym (ap (first_wrong (keyless (ring_of keys))) here) ∙ keyed) in
        some_key (keys id) (ap (λ (x : List ℕ). reason_in (found_or_missing (keys x))) (sym is) ∙ right)

    module _ (kind type : ℕ) (id h c key : List ℕ) (long : length id ≡ 16) (is : h ≡ head kind id type)
        (whole : contents_of e.tree ≡ h ++ c) where
      -- the value is 5 bytes of a binary, the head, and what is sealed
      sealed_size : length (value_bytes e.tree) ≡ 23 + length c
      sealed_size = omega (
        arith,
        ap (λ (t : Tree). length (contents_of t)) raw,
        ap (λ (t : Tree). length (value_bytes t)) raw,
        length-drop 5 bytes,
        ap length whole,
        length-append h c,
        ap length is,
        head-size kind id type long,
      )

      -- there is room for what is written
      pub leaf_room : (at named : ℕ) (size : ℕ) → at + length (element_bytes e) ≤ size → named ≡ at + 2 + length e.name
          → named + length c ≤ size
      leaf_room at named size room place =
          omega (arith, room, place, element_size e.name e.tree no_items, sealed_size)

      pub leaf_opens : (at named : ℕ) (old mid new : List ℕ) (r : Result ℕ Spot) → is_some (keys id) ≡ true
          → key ≡ unwrap_or (keys id) []
          → named ≡ at + 2 + length e.name → take named mid ≡ take at old ++ (type ∷ (e.name ++ 0 ∷ []))
          → ValueOpens key levels (h ++ c) e.start mid new named (length c) r
          → OpensAs (ring_of keys) (founds_in levels e.start e.tree) (element_opened (ring_of keys) e) old new at
          (length (element_bytes e)) r
      leaf_opens at named old mid new (Ok end) there same place name w =
          let b = h ++ c in
          let ring : ring_of keys (id_in b) ≡ Ok key = ap (ring_of keys) (id_is kind id type h c long is)
          ∙ the_key (keys id) there ∙ ap Ok (sym same) in
          let value : fill_tree (opened_value (value_of (ring_of keys))) e.start e.tree ≡ value_in key b =
          opened_leaf (value_of (ring_of keys)) e.start e.tree tag bytes raw on ∙ ap (value_of (ring_of keys)) whole
          ∙ rw ring refl in
          let sort : tag_of (value_in key b) ≡ type = type_of_value key b ∙ type_is kind id type h c long is in
          let bytes_are : element_opened (ring_of keys) e
          ≡ (type ∷ (e.name ++ 0 ∷ [])) ++ value_bytes (value_in key b) =
          ap (λ (t : Tree). items_bytes (item e.name t no_items)) value
          ∙ ap (λ (n : ℕ). n ∷ (e.name ++ (0 ∷ (value_bytes (value_in key b) ++ [])))) sort
          ∙ ap (λ (x : List ℕ). type ∷ (e.name ++ (0 ∷ x))) (append-nil (value_bytes (value_in key b)))
          ∙ ap (λ (x : List ℕ). type ∷ x) (sym (append_assoc e.name (0 ∷ []) (value_bytes (value_in key b)))) in (
            ap (first_wrong (spoilt (ring_of keys))) here ∙ rw (whole, ring, w.0) refl,
            w.1 ∙ ap (λ (x : List ℕ). x ++ value_bytes (value_in key b)) name
                ∙ append_assoc (take at old) (type ∷ (e.name ++ 0 ∷ [])) (value_bytes (value_in key b))
                ∙ ap (λ (x : List ℕ). take at old ++ x) (sym bytes_are),
            omega (arith, w.2, place, element_size e.name e.tree no_items, sealed_size, ap length here),
          )
      leaf_opens at named old mid new (Err spot) there same place name w =
          let b = h ++ c in
          let ring : ring_of keys (id_in b) ≡ Ok key = ap (ring_of keys) (id_is kind id type h c long is)
          ∙ the_key (keys id) there ∙ ap Ok (sym same) in
          ap (first_wrong (spoilt (ring_of keys))) here
          ∙ rw (whole, ring, w.0) (ap (λ (n : ℕ). Some (record { reason = spot.reason; at = n })) (sym w.1))
