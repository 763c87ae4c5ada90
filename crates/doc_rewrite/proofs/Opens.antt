-- A document that is opened element by element.
use Rattle.std.proofs.Common.{◌≡◌, ◌∙◌, ℕ, ◌+◌, ◌-◌, ◌*◌, ◌≤◌, Some, None, Result, Ok, Err, List, [], ◌∷◌, ◌++◌, length}
use Rattle.std.proofs.Common.{take, drop, arith, sym, ap, append_assoc, append-nil, length-append, length-take-le}
use Rattle.std.proofs.Common.{refl, take-add}
use Rattle.std.proofs.lemmas.List.{length-drop, length-take}
use Rattle.bson_tree.specs.Tree.{Tree, Items, node, item, no_items, tag_of}
use Rattle.bson_tree.specs.Spelling.{framed, value_bytes, items_bytes, doc_bytes}
use Rattle.bson_tree.specs.Filled.{fill_tree}
use Rattle.bson_tree.proofs.Sizes.{element_size, framed_size}
use Rattle.bson_codec.specs.Borrowed.{At, Elem}
use Rattle.bson_codec.specs.Elements.{TakesElement}
use Rattle.bson_splice.proofs.Frames.{one_item}
use Rattle.encrypt_schema.specs.Commands.Visits.{Refusal}
use Rattle.doc_rewrite.specs.declared.unsealing.Spot.{Spot}
use Rattle.doc_rewrite.specs.Founds.{founds, founds_in, opened_value, opened_items}
use Rattle.doc_rewrite.specs.Opened.{Keyring, first_wrong, keyless, misshapen, spoilt, value_of}
use Rattle.doc_rewrite.specs.Opening.{Fits, OpensAs, document_opened, element_opened, element_bytes, elements_opened}
use Rattle.doc_rewrite.specs.Opening.{spared}
use Rattle.doc_rewrite.proofs.Held.{held, held_in}
use Rattle.doc_rewrite.proofs.Walks.{before_wrong, behind_right, founds_parts, neither_wrong}

-- some elements are opened, and these are left
pub record Going (keys : Keyring) (levels : ℕ) (all here : At) (old new : List ℕ) (at end : ℕ) : Type 0 where
  pub made : take end new ++ elements_opened keys here.start here.tree
      ≡ take at old ++ elements_opened keys (all.start + 4) all.tree
  pub wrongs : first_wrong (spoilt keys) (founds levels here.start here.tree)
      ≡ first_wrong (spoilt keys) (founds levels (all.start + 4) all.tree)
  pub room : end + length (items_bytes here.tree) + spared * length (founds levels (all.start + 4) all.tree)
      ≤ at + length (items_bytes all.tree) + spared * length (founds levels here.start here.tree)
  pub shaped : first_wrong misshapen (founds levels here.start here.tree) ≡ None
  pub keyed : first_wrong (keyless keys) (founds levels here.start here.tree) ≡ None

module _ (keys : Keyring) (levels : ℕ) where
  opened_parts : (here rest : At) (e : Elem) → TakesElement here (Some e) rest
      → elements_opened keys here.start here.tree ≡ element_opened keys e ++ elements_opened keys rest.start rest.tree
  opened_parts here rest e taken =
      let v = value_of keys in
      let p : here.start + (2 + length e.name) ≡ e.start = sym taken.1 in
      let q : e.start + length (value_bytes e.tree) ≡ rest.start = sym taken.2 in
      ap (λ (is : Items). items_bytes (opened_items v here.start is)) taken.0
      ∙ ap (λ (n : ℕ). items_bytes (item e.name (fill_tree (opened_value v) n e.tree)
      (opened_items v (n + length (value_bytes e.tree)) rest.tree))) p
      ∙ ap (λ (n : ℕ). items_bytes (item e.name (fill_tree (opened_value v) e.start e.tree)
      (opened_items v n rest.tree))) q
      ∙ one_item e.name (fill_tree (opened_value v) e.start e.tree) (opened_items v rest.start rest.tree)

  size_parts : (here rest : At) (e : Elem) → TakesElement here (Some e) rest
      → length (items_bytes here.tree) ≡ length (element_bytes e) + length (items_bytes rest.tree)
  size_parts here rest e taken = ap length (ap items_bytes taken.0 ∙ one_item e.name e.tree rest.tree)
      ∙ length-append (element_bytes e) (items_bytes rest.tree)

  module _ (all : At) (old : List ℕ) (at : ℕ) where
    pub starts : (here : At) → here ≡ record { tree = all.tree; start = all.start + 4 }
        → first_wrong misshapen (founds levels (all.start + 4) all.tree) ≡ None
        → first_wrong (keyless keys) (founds levels (all.start + 4) all.tree) ≡ None
        → Going keys levels all here old old at at
    starts here e shaped keyed = record {
      made = ap (λ (h : At). take at old ++ elements_opened keys h.start h.tree) e;
      wrongs = ap (λ (h : At). first_wrong (spoilt keys) (founds levels h.start h.tree)) e;
      room = omega (
        arith,
        ap (λ (h : At). length (items_bytes h.tree)) e,
        ap (λ (h : At). length (founds levels h.start h.tree)) e,
      );
      shaped = ap (λ (h : At). first_wrong misshapen (founds levels h.start h.tree)) e ∙ shaped;
      keyed = ap (λ (h : At). first_wrong (keyless keys) (founds levels h.start h.tree)) e ∙ keyed;
    }

    module _ (here rest : At) (e : Elem) (now : List ℕ) (end : ℕ) (taken : TakesElement here (Some e) rest)
        (o : Going keys levels all here old now at end) where
      parts : founds levels here.start here.tree ≡ founds_in levels e.start e.tree ++ founds levels rest.start rest.tree
      parts = founds_parts levels here rest e taken

      shapes : (first_wrong misshapen (founds_in levels e.start e.tree) ≡ None)
          × (first_wrong misshapen (founds levels rest.start rest.tree) ≡ None)
      shapes = neither_wrong misshapen (founds_in levels e.start e.tree) (founds levels rest.start rest.tree)
          (sym (ap (first_wrong misshapen) parts) ∙ o.shaped)

      all_keyed : (first_wrong (keyless keys) (founds_in levels e.start e.tree) ≡ None)
          × (first_wrong (keyless keys) (founds levels rest.start rest.tree) ≡ None)
      all_keyed = neither_wrong (keyless keys) (founds_in levels e.start e.tree) (founds levels rest.start rest.tree)
          (sym (ap (first_wrong (keyless keys)) parts) ∙ o.keyed)

      pub next_shaped : first_wrong misshapen (founds_in levels e.start e.tree) ≡ None
      next_shaped = shapes.0

      pub next_keyed : first_wrong (keyless keys) (founds_in levels e.start e.tree) ≡ None
      next_keyed = all_keyed.0

      counts : length (founds levels here.start here.tree)
          ≡ length (founds_in levels e.start e.tree) + length (founds levels rest.start rest.tree)
      counts = ap length parts ∙ length-append (founds_in levels e.start e.tree) (founds levels rest.start rest.tree)

      pub next_room : (size : ℕ)
          → Fits at (length (items_bytes all.tree)) (founds levels (all.start + 4) all.tree) size
          → Fits end (length (element_bytes e)) (founds_in levels e.start e.tree) size
      next_room size fits = omega (
        arith,
        fits,
        o.room,
        size_parts here rest e taken,
        counts,
        held levels rest.start rest.tree shapes.1,
      )

      pub goes_on : (new : List ℕ) (behind : ℕ)
          → (first_wrong (spoilt keys) (founds_in levels e.start e.tree) ≡ None)
          × (take behind new ≡ take end now ++ element_opened keys e)
          × (behind + spared * length (founds_in levels e.start e.tree) ≤ end + length (element_bytes e))
          → Going keys levels all rest old new at behind
      goes_on new behind s =
          let ps = founds_in levels e.start e.tree in
          let qs = founds levels rest.start rest.tree in
          record {
            made = ap (λ (x : List ℕ). x ++ elements_opened keys rest.start rest.tree) s.1
                ∙ append_assoc (take end now) (element_opened keys e) (elements_opened keys rest.start rest.tree)
                ∙ ap (λ (x : List ℕ). take end now ++ x) (sym (opened_parts here rest e taken)) ∙ o.made;
            wrongs = sym (ap (first_wrong (spoilt keys)) parts ∙ behind_right (spoilt keys) ps qs s.0) ∙ o.wrongs;
            room = omega (arith, s.2, o.room, size_parts here rest e taken, counts);
            shaped = shapes.1;
            keyed = all_keyed.1;
          }

      pub stops : (r : Refusal) → first_wrong (spoilt keys) (founds_in levels e.start e.tree) ≡ Some r
          → first_wrong (spoilt keys) (founds levels (all.start + 4) all.tree) ≡ Some r
      stops r s = sym o.wrongs ∙ ap (first_wrong (spoilt keys)) parts
          ∙ before_wrong (spoilt keys) (founds_in levels e.start e.tree) (founds levels rest.start rest.tree) r s

      pub halts : (new : List ℕ) (r : Result ℕ Spot) → ((behind : ℕ) → r ≡ Ok behind → ⊥)
          → OpensAs keys (founds_in levels e.start e.tree) (element_opened keys e) now new end
          (length (element_bytes e)) r
          → OpensAs keys (founds levels (all.start + 4) all.tree) (elements_opened keys (all.start + 4) all.tree)
          old new at (length (items_bytes all.tree)) r
      halts new (Ok behind) never told = absurd (never behind refl)
      halts new (Err spot) never told = stops (record { reason = spot.reason; at = spot.at }) told

    pub ends : (here : At) (new : List ℕ) (end : ℕ) → here.tree ≡ no_items → Going keys levels all here old new at end
        → (first_wrong (spoilt keys) (founds levels (all.start + 4) all.tree) ≡ None)
        × (take end new ≡ take at old ++ elements_opened keys (all.start + 4) all.tree)
        × (end + spared * length (founds levels (all.start + 4) all.tree) ≤ at + length (items_bytes all.tree))
    ends here new end none o = (
      sym o.wrongs ∙ ap (λ (is : Items). first_wrong (spoilt keys) (founds levels here.start is)) none,
      sym (append-nil (take end new)) ∙ ap (λ (is : Items). take end new ++ elements_opened keys here.start is)
          (sym none) ∙ o.made,
      omega (
        arith,
        o.room,
        ap (λ (is : Items). length (items_bytes is)) none,
        ap (λ (is : Items). length (founds levels here.start is)) none,
      ),
    )

-- there is room for the first bytes of an element, and of a document
pub name_fits : (levels at size : ℕ) (e : Elem) → first_wrong misshapen (founds_in levels e.start e.tree) ≡ None
    → Fits at (length (element_bytes e)) (founds_in levels e.start e.tree) size → at + 2 + length e.name ≤ size
name_fits levels at size e shaped fits =
    omega (arith, fits, element_size e.name e.tree no_items, held_in levels e.start e.tree shaped)

pub frame_fits : (levels at size : ℕ) (d : At) → first_wrong misshapen (founds levels (d.start + 4) d.tree) ≡ None
    → Fits at (length (doc_bytes d.tree)) (founds levels (d.start + 4) d.tree) size → at + 5 ≤ size
frame_fits levels at size d shaped fits =
    omega (arith, fits, framed_size (items_bytes d.tree), held levels (d.start + 4) d.tree shaped)

-- where the elements of a document end
pub begun : (at end : ℕ) (old new made : List ℕ) → take end new ≡ take (at + 4) old ++ made → at + 4 ≤ length old
    → at + 4 ≤ end
begun at end old new made e low =
    omega (
      arith,
      ap length e,
      length-append (take (at + 4) old) made,
      length-take-le (at + 4) old low,
      length-take end new,
    )

-- a document whose elements are opened
pub closed_document : (at end behind : ℕ) (old new out elements : List ℕ) → at + 5 ≤ length old
    → ((front four parts : List ℕ) → length front ≡ at → length four ≡ 4 → take end new ≡ (front ++ four) ++ parts
    → take behind out ≡ front ++ framed parts)
    → take end new ≡ take (at + 4) old ++ elements → take behind out ≡ take at old ++ framed elements
closed_document at end behind old new out elements low closed written =
    closed (take at old) (take 4 (drop at old)) elements (length-take-le at old (omega (arith, low)))
    (length-take-le 4 (drop at old) (omega (arith, low, length-drop at old)))
    (written ∙ ap (λ (x : List ℕ). x ++ elements) (take-add at 4 old))

-- an element with a document inside
module _ (keys : Keyring) (levels : ℕ) (e : Elem) (d : At) (lower : ℕ) (is : e.tree ≡ node (tag_of e.tree) d.tree)
    (start : d.start ≡ e.start) (less : lower ≡ levels - 1) where
  inside_founds : founds_in levels e.start e.tree ≡ founds lower (d.start + 4) d.tree
  inside_founds =
      ap (founds_in levels e.start) is ∙ ap (λ (n : ℕ). founds (levels - 1) (n + 4) d.tree) (sym start)
      ∙ ap (λ (n : ℕ). founds n (d.start + 4) d.tree) (sym less)

  inside_opened : element_opened keys e ≡ (tag_of e.tree ∷ (e.name ++ 0 ∷ [])) ++ document_opened keys d
  inside_opened =
      let v = value_of keys in
      let body = document_opened keys d in
      let split : tag_of e.tree ∷ (e.name ++ 0 ∷ (body ++ [])) ≡ (tag_of e.tree ∷ (e.name ++ 0 ∷ [])) ++ body =
      simp (append_assoc, append-nil) in
      ap (λ (t : Tree). items_bytes (item e.name (fill_tree (opened_value v) e.start t) no_items)) is
      ∙ ap (λ (n : ℕ). items_bytes (item e.name (node (tag_of e.tree) (opened_items v (n + 4) d.tree)) no_items))
      (sym start) ∙ split

  pub inside_opens : (at named : ℕ) (old mid new : List ℕ) (r : Result ℕ Spot) → named ≡ at + 2 + length e.name
      → take named mid ≡ take at old ++ (tag_of e.tree ∷ (e.name ++ 0 ∷ []))
      → OpensAs keys (founds lower (d.start + 4) d.tree) (document_opened keys d) mid new named
      (length (doc_bytes d.tree)) r
      → OpensAs keys (founds_in levels e.start e.tree) (element_opened keys e) old new at (length (element_bytes e)) r
  inside_opens at named old mid new (Ok end) place name w = (
    ap (first_wrong (spoilt keys)) inside_founds ∙ w.0,
    w.1 ∙ ap (λ (x : List ℕ). x ++ document_opened keys d) name
        ∙ append_assoc (take at old) (tag_of e.tree ∷ (e.name ++ 0 ∷ [])) (document_opened keys d)
        ∙ ap (λ (x : List ℕ). take at old ++ x) (sym inside_opened),
    omega (
      arith,
      w.2,
      place,
      element_size e.name e.tree no_items,
      ap (λ (t : Tree). length (value_bytes t)) is,
      ap length inside_founds,
    ),
  )
  inside_opens at named old mid new (Err spot) place name w = ap (first_wrong (spoilt keys)) inside_founds ∙ w
