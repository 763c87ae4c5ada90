-- A document that is opened whole.
use Rattle.std.proofs.Common.{◌≡◌, ◌∙◌, ℕ, ◌+◌, ◌-◌, ◌*◌, ◌≤◌, Bool, true, false, Option, Some, None, Result, Ok}
use Rattle.std.proofs.Common.{Err, List, [], ◌∷◌, ◌++◌, length, map, take, arith, refl, sym, ap, subst, length-take-le}
use Rattle.std.proofs.lemmas.List.{take-append-le}
use Rattle.std.specs.Prelude.{IfOk, is_some, if◌then◌else◌}
use Rattle.bson_tree.specs.Tree.{Tree, leaf, node, Items, no_items, item}
use Rattle.bson_tree.specs.Spelling.{value_bytes, doc_bytes}
use Rattle.bson_tree.specs.Filled.{fill_tree}
use Rattle.bson_codec.specs.Borrowed.{At}
use Rattle.encrypt_schema.specs.Commands.Visits.{Refusal}
use Rattle.payload6.specs.Verdicts.{id_in}
use Rattle.doc_rewrite.specs.declared.found.FoundAt.{FoundAt}
use Rattle.doc_rewrite.specs.declared.unsealing.Spot.{Spot}
use Rattle.doc_rewrite.specs.Finding.{HasKeysFor, IsFoundIn, found_at}
use Rattle.doc_rewrite.specs.Founds.{Place, founds, founds_in, is_sealed, opened_value, opened_items, payloads_of}
use Rattle.doc_rewrite.specs.Founds.{place_of}
use Rattle.doc_rewrite.specs.Keys.{IdLookup}
use Rattle.doc_rewrite.specs.Opened.{Keyring, first_wrong, found_or_missing, keyless, misshapen, opened, opened_whole}
use Rattle.doc_rewrite.specs.Opened.{reason_in, ring_of, spoilt, value_of}
use Rattle.doc_rewrite.specs.Opening.{OpensAs, OpensWhole, document_opened, spared}

-- ---- keys

with_key : (o : Option (List ℕ)) → is_some o ≡ true → reason_in (found_or_missing o) ≡ None
with_key (Some key) e = refl
with_key None e = absurd cc

-- where each id has its key, none is missing
all_keyed : (keys : IdLookup) (ps : List Place) → HasKeysFor keys (map found_at ps)
    → first_wrong (keyless (ring_of keys)) ps ≡ None
all_keyed keys [] h = refl
all_keyed keys (p ∷ ps) h =
    let here = with_key (keys (id_in p.contents)) h.0 in
    rw here (all_keyed keys ps h.1)

pub found_keyed : (keys : IdLookup) (d : At) (fs : List FoundAt) → IsFoundIn d fs → HasKeysFor keys fs
    → first_wrong (keyless (ring_of keys)) (payloads_of d) ≡ None
found_keyed keys d fs found h = all_keyed keys (payloads_of d) (subst (HasKeysFor keys) found.all h)

-- ---- nothing to be opened

both_empty : {A : Type 0} (xs ys : List A) → xs ++ ys ≡ [] → (xs ≡ []) × (ys ≡ [])
both_empty [] ys e = (refl, e)
both_empty (x ∷ xs) ys e = absurd cc

none_mapped : (ps : List Place) → map found_at ps ≡ [] → ps ≡ []
none_mapped [] e = refl
none_mapped (p ∷ ps) e = absurd cc

module _ (value : List ℕ → Tree) where
  kept_leaf : (levels at tag : ℕ) (bytes : List ℕ) (b : Bool) → is_sealed tag bytes ≡ b
      → (if b then place_of levels at (leaf tag bytes) ∷ [] else []) ≡ []
      → fill_tree (opened_value value) at (leaf tag bytes) ≡ leaf tag bytes
  kept_leaf levels at tag bytes true is e = absurd cc
  kept_leaf levels at tag bytes false is e = rw is refl

  mutual
    kept_in : (levels at : ℕ) (t : Tree) → founds_in levels at t ≡ [] → fill_tree (opened_value value) at t ≡ t
    kept_in levels at (leaf tag bytes) e = kept_leaf levels at tag bytes (is_sealed tag bytes) refl e
    kept_in levels at (node tag is) e = ap (node tag) (kept_items (levels - 1) (at + 4) is e)

    kept_items : (levels at : ℕ) (is : Items) → founds levels at is ≡ [] → opened_items value at is ≡ is
    kept_items levels at no_items e = refl
    kept_items levels at (item name t is) e =
        let p = at + (2 + length name) in
        let parts = both_empty (founds_in levels p t) (founds levels (p + length (value_bytes t)) is) e in
        ap (λ (x : Tree). item name x (opened_items value (p + length (value_bytes t)) is)) (kept_in levels p t parts.0)
        ∙ ap (item name t) (kept_items levels (p + length (value_bytes t)) is parts.1)

-- ---- the whole

module _ (keys : Keyring) (d : At) (shaped : first_wrong misshapen (payloads_of d) ≡ None)
    (keyed : first_wrong (keyless keys) (payloads_of d) ≡ None) where
  opens_right : first_wrong (spoilt keys) (payloads_of d) ≡ None → opened keys d ≡ Ok (opened_whole keys d)
  unfolding opened
  opens_right e = rw (shaped, keyed, e) refl

  refuses : (r : Refusal) → first_wrong (spoilt keys) (payloads_of d) ≡ Some r → opened keys d ≡ Err r
  unfolding opened
  refuses r e = rw (shaped, keyed, e) refl

  -- nothing was found: the document's own bytes
  pub opens_none : (fs : List FoundAt) (new : List ℕ) (n : ℕ) → fs ≡ map found_at (payloads_of d) → length fs ≡ 0
      → take n new ≡ doc_bytes d.tree
      → n ≡ length (doc_bytes d.tree) → OpensWhole keys d new (Ok n)
  opens_none [] new n all none written size =
      let nothing : payloads_of d ≡ [] = none_mapped (payloads_of d) (sym all) in
      let same : opened_whole keys d ≡ d.tree = kept_items (value_of keys) 99 (d.start + 4) d.tree nothing in (
        opens_right (ap (first_wrong (spoilt keys)) nothing),
        size ∙ ap (λ (is : Items). length (doc_bytes is)) (sym same),
        written ∙ ap doc_bytes (sym same),
      )
  opens_none (f ∷ fs) new n all none written size = absurd cc

  pub opens_all : (old front rest new : List ℕ) (r : Result ℕ Spot)
      → length (doc_bytes d.tree) ≤ length front + spared * length (payloads_of d) → new ≡ front ++ rest
      → OpensAs keys (payloads_of d) (document_opened keys d) old front 0 (length (doc_bytes d.tree)) r
      → OpensWhole keys d new r
  opens_all old front rest new (Ok end) size is w =
      let within : end ≤ length front = omega (arith, size, w.2) in (
        opens_right w.0,
        sym (length-take-le end front within) ∙ ap length w.1,
        ap (take end) is ∙ take-append-le end front rest within ∙ w.1,
      )
  opens_all old front rest new (Err spot) size is w = refuses _ w

-- it has at most as many bytes as what is opened
pub opens_short : (keys : Keyring) (ps : List Place) (made old new : List ℕ) (most : ℕ) (r : Result ℕ Spot)
    → OpensAs keys ps made old new 0 most r → IfOk r (λ n. n ≤ most)
opens_short keys ps made old new most (Ok end) w = omega (arith, w.2)
opens_short keys ps made old new most (Err spot) w = tt
