-- A table of data keys seals and opens as the keys that it was made of.
use Rattle.std.proofs.Common.{◌≡◌, ◌∙◌, ℕ, ◌+◌, ◌-◌, Bool, true, false, List, [], ◌∷◌, ◌++◌, length, map, Option, Some}
use Rattle.std.proofs.Common.{None}
use Rattle.std.proofs.Common.{Result, Ok, Err, refl, sym, ap, ap₂, subst}
use Rattle.std.proofs.lemmas.List.{map-append}
use Rattle.std.specs.Prelude.{if◌then◌else◌, unwrap_or}
use Rattle.bson_tree.specs.Tree.{Tree, leaf, node, Items, no_items, item}
use Rattle.bson_tree.specs.Spelling.{value_bytes}
use Rattle.bson_tree.specs.Filled.{fill_tree}
use Rattle.bson_codec.specs.Borrowed.{At}
use Rattle.bson_splice.specs.Splices.{Put}
use Rattle.bson_splice.specs.Whole.{replaced}
use Rattle.encrypt_schema.specs.Commands.Visits.{Refusal, or_else, refused_at}
use Rattle.encrypt_schema.specs.declared.command.reason.Reason.{Reason}
use Rattle.fle_outside.specs.Blocks.{Block}
use Rattle.payload6.specs.Marking.{binary}
use Rattle.payload6.specs.Needs.{Need, Id}
use Rattle.payload6.specs.Verdicts.{id_in, value_in, wrong}
use Rattle.doc_rewrite.specs.Founds.{Place, founds, founds_in, is_sealed, opened_items, opened_value, payloads_of}
use Rattle.doc_rewrite.specs.Founds.{place_of}
use Rattle.doc_rewrite.specs.Keys.{Found, Table, key_by_id, key_in, under_id}
use Rattle.doc_rewrite.specs.Opened.{Keyring, first_wrong, found_or_missing, key_or_none, keyless, misshapen, opened}
use Rattle.doc_rewrite.specs.Opened.{opened_unless, opened_whole, reason_in, ring_of, spoilt, value_of}
use Rattle.doc_rewrite.specs.Payloads.{payload_under}
use Rattle.doc_rewrite.specs.Sealed.{any_key, first_block, label_of, other_blocks, put_of, sealed, sealed_value, seals}
use Rattle.doc_rewrite.specs.Sites.{Site}
use Rattle.context_machine.specs.Needs.{NeedAt}
use Rattle.context_machine.specs.Rings.{AreOpened, Finder, IsOpened, by_ids, first_keyless, found_in, key_if}
use Rattle.context_machine.specs.Rings.{need_at, need_in, needs_in, reason_of, with_own}

-- ---- sealing

module _ (keys : Finder) (table : Table) where
  same_found : (need : Need) → IsOpened keys table need → key_in table need ≡ found_in keys need
  same_found need o = o.2 ∙ sym (ap key_if o.1)

  same_value : (s : Site) (block : Block) → IsOpened keys table s.need
      → sealed_value (key_in table) s block ≡ sealed_value (found_in keys) s block
  unfolding sealed_value
  same_value s block o =
      let value : Option Found → Tree → Tree = λ k t.
      binary 6 (payload_under (label_of s (unwrap_or k any_key)) (unwrap_or k any_key).key t block) in
      ap value (same_found s.need o)

  same_put : (s : Site) (block : Block) → IsOpened keys table s.need
      → put_of (key_in table) s block ≡ put_of (found_in keys) s block
  same_put s block o =
      ap (λ (f : Tree → Tree). record { start = s.start; end = s.end; value = f }) (same_value s block o)

  same_seals : (ss : List Site) (blocks : List Block) → AreOpened keys (map need_at ss) table
      → seals (key_in table) ss blocks ≡ seals (found_in keys) ss blocks
  same_seals [] blocks are = refl
  same_seals (s ∷ ss) blocks are =
      let more = other_blocks s.algorithm blocks in
      ap (λ (p : Put). p ∷ seals (key_in table) ss more) (same_put s (first_block s.algorithm blocks) are.0)
      ∙ ap (λ (ps : List Put). put_of (found_in keys) s (first_block s.algorithm blocks) ∷ ps)
      (same_seals ss more are.1)

  pub table_seals : (ss : List Site) (blocks : List Block) (d : At) → AreOpened keys (map need_at ss) table
      → sealed (key_in table) ss blocks d ≡ sealed (found_in keys) ss blocks d
  unfolding sealed
  table_seals ss blocks d are = ap (λ (ps : List Put). replaced ps d) (same_seals ss blocks are)

-- ---- opening

opened_parts : (keys : Finder) (table : Table) (ms ns : List NeedAt) → AreOpened keys (ms ++ ns) table
    → AreOpened keys ms table × AreOpened keys ns table
opened_parts keys table [] ns are = (tt, are)
opened_parts keys table (m ∷ ms) ns are =
    let rest = opened_parts keys table ms ns are.1 in
    ((are.0, rest.0), rest.1)

ring_by : (id : List ℕ) (k : Result (List ℕ) Reason) (o : Option (List ℕ)) (f : Found) → with_own id k ≡ Ok f
    → under_id id o ≡ Some f → found_or_missing o ≡ k
ring_by id (Err reason) o f p q = absurd cc
ring_by id (Ok key) None f p q = absurd cc
ring_by id (Ok key) (Some own) f p q =
    let is : record { id = id; key = key } ≡ f = cc in
    let there : record { id = id; key = own } ≡ f = cc in
    ap (λ (x : Found). Ok x.key) (there ∙ sym is)

module _ (keys : Keyring) (table : Table) where
  same_ring : (id : List ℕ) → IsOpened (by_ids keys) table (Id id) → ring_of (key_by_id table.ids) id ≡ keys id
  same_ring id o = ring_by id (keys id) (key_by_id table.ids id) o.0 o.1 o.2

  module _ (judge : Result (List ℕ) Reason → Place → Option Reason) where
    same_wrong : (ps : List Place) → AreOpened (by_ids keys) (map need_in ps) table
        → first_wrong (λ p. judge (ring_of (key_by_id table.ids) (id_in p.contents)) p) ps
        ≡ first_wrong (λ p. judge (keys (id_in p.contents)) p) ps
    same_wrong [] are = refl
    same_wrong (p ∷ ps) are =
        ap₂ (λ (k : Result (List ℕ) Reason) (o : Option Refusal). or_else (refused_at p.start (judge k p)) o)
        (same_ring (id_in p.contents) are.0) (same_wrong ps are.1)

  -- a payload opens to the same value
  leaf_by : (levels at tag : ℕ) (bytes : List ℕ) (b : Bool) → is_sealed tag bytes ≡ b
      → AreOpened (by_ids keys) (map need_in (if b then place_of levels at (leaf tag bytes) ∷ [] else [])) table
      → fill_tree (opened_value (value_of (ring_of (key_by_id table.ids)))) at (leaf tag bytes)
      ≡ fill_tree (opened_value (value_of keys)) at (leaf tag bytes)
  leaf_by levels at tag bytes false is are = rw is refl
  leaf_by levels at tag bytes true is are =
      let p = place_of levels at (leaf tag bytes) in
      rw is (ap (λ (k : Result (List ℕ) Reason). value_in (key_or_none k) p.contents)
      (same_ring (id_in p.contents) are.0))

  mutual
    same_in : (levels at : ℕ) (t : Tree) → AreOpened (by_ids keys) (map need_in (founds_in levels at t)) table
        → fill_tree (opened_value (value_of (ring_of (key_by_id table.ids)))) at t
        ≡ fill_tree (opened_value (value_of keys)) at t
    same_in levels at (leaf tag bytes) are = leaf_by levels at tag bytes (is_sealed tag bytes) refl are
    same_in levels at (node tag is) are = ap (node tag) (same_items (levels - 1) (at + 4) is are)

    same_items : (levels at : ℕ) (is : Items) → AreOpened (by_ids keys) (map need_in (founds levels at is)) table
        → opened_items (value_of (ring_of (key_by_id table.ids))) at is ≡ opened_items (value_of keys) at is
    same_items levels at no_items are = refl
    same_items levels at (item name t is) are =
        let p = at + (2 + length name) in
        let q = p + length (value_bytes t) in
        let split = map-append need_in (founds_in levels p t) (founds levels q is) in
        let parts = opened_parts (by_ids keys) table (map need_in (founds_in levels p t))
        (map need_in (founds levels q is))
        (subst (λ (ns : List NeedAt). AreOpened (by_ids keys) ns table) split are) in
        ap₂ (item name) (same_in levels p t parts.0) (same_items levels q is parts.1)

  pub table_opens : (d : At) → AreOpened (by_ids keys) (needs_in d) table → opened (ring_of (key_by_id table.ids)) d
      ≡ opened keys d
  unfolding opened
  table_opens d are =
      let ps = payloads_of d in
      let keyed : first_wrong (keyless (ring_of (key_by_id table.ids))) ps ≡ first_wrong (keyless keys) ps =
      same_wrong (λ k p. reason_in k) ps are in
      let right : first_wrong (spoilt (ring_of (key_by_id table.ids))) ps ≡ first_wrong (spoilt keys) ps =
      same_wrong (λ k p. wrong (key_or_none k) p.levels p.contents) ps are in
      let whole : opened_whole (ring_of (key_by_id table.ids)) d ≡ opened_whole keys d =
      same_items 99 (d.start + 4) d.tree are in
      ap₂ opened_unless whole
      (ap₂ (λ (a b : Option Refusal). or_else (first_wrong misshapen ps) (or_else a b)) keyed right)

-- ---- refusals

reason_same : (id : List ℕ) (k : Result (List ℕ) Reason) → reason_in k ≡ reason_of (with_own id k)
reason_same id (Ok key) = refl
reason_same id (Err reason) = refl

module _ (keys : Keyring) where
  keyless_same : (ps : List Place) → first_wrong (keyless keys) ps ≡ first_keyless (by_ids keys) (map need_in ps)
  keyless_same [] = refl
  keyless_same (p ∷ ps) =
      let id = id_in p.contents in
      ap (or_else (refused_at p.start (reason_in (keys id)))) (keyless_same ps)
      ∙ ap (λ (r : Option Reason). or_else (refused_at p.start r) (first_keyless (by_ids keys) (map need_in ps)))
      (reason_same id (keys id))

  pub misshapen_stops : (d : At) (r : Refusal) → first_wrong misshapen (payloads_of d) ≡ Some r → opened keys d ≡ Err r
  unfolding opened
  misshapen_stops d r e = rw e refl

  pub keyless_stops : (d : At) (r : Refusal) → first_wrong misshapen (payloads_of d) ≡ None
      → first_keyless (by_ids keys) (needs_in d) ≡ Some r → opened keys d ≡ Err r
  unfolding opened
  keyless_stops d r shaped e =
      let none : first_wrong (keyless keys) (payloads_of d) ≡ Some r = keyless_same (payloads_of d) ∙ e in
      rw (shaped, none) refl
