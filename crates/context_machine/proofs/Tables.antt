-- The table of the data keys that are needed, key by key.
use Rattle.std.proofs.Common.{◌≡◌, ◌∙◌, ℕ, zero, suc, ◌+◌, ◌<◌, arith, true, List, [], ◌∷◌, length, drop, map}
use Rattle.std.proofs.Common.{get_or, Option, Result, Ok, Err, sym, ap, subst}
use Rattle.std.proofs.lemmas.List.{drop-map}
use Rattle.std.proofs.Math.Seq.{drop-cons}
use Rattle.data_key.specs.declared.key_doc.KeyDoc.{KeyDoc}
use Rattle.encrypt_schema.specs.Commands.Visits.{Refusal}
use Rattle.payload6.specs.Needs.{Need, need_seen}
use Rattle.doc_rewrite.specs.Keys.{Found, Table}
use Rattle.context_machine.specs.declared.need.NeedAt.{NeedAt as HeldNeedAt}
use Rattle.context_machine.specs.declared.opened_keys.KeysStop.{KeysStop}
use Rattle.context_machine.specs.declared.opened_keys.KeysStop.TheVariants as stops
use Rattle.encrypt_schema.specs.declared.command.reason.Reason.{Reason}
use Rattle.context_machine.specs.Kept.{key_by}
use Rattle.context_machine.specs.Needs.{NeedAt, is_needed, is_same, need_at_seen, needs_seen}
use Rattle.context_machine.specs.Rings.{Finder, finder, found_key}
use Rattle.context_machine.specs.Tables.{PutsKey, StopsAt, TellsTable, if_found, table_from, with_found}
use Rattle.context_machine.proofs.Kept.{or_left, or_right, same_self}

-- what comes behind the table with this need's data key
abbrev others : Finder → Table → NeedAt → List NeedAt → Found → Result Table Refusal
others keys before n ns found = table_from keys (with_found before n.need found) ns

-- the key of a value is put behind those before
pub put_more : (keys : Finder) (n : NeedAt) (ns : List NeedAt) (before now : Table)
    → PutsKey n (keys n.need) before now (Ok tt) → table_from keys now ns ≡ table_from keys before (n ∷ ns)
put_more keys n ns before now put =
    ap (λ (t : Table). table_from keys t ns) put.2 ∙ sym (ap (if_found n (others keys before n ns)) put.1)

-- the value is refused
pub put_none : (keys : Finder) (n : NeedAt) (ns : List NeedAt) (before : Table) (made : Result Table Refusal)
    (stop : KeysStop) → StopsAt n (keys n.need) stop → table_from keys before (n ∷ ns) ≡ made
    → TellsTable made (Err stop)
put_none keys n ns before made (stops.Refused reason at) put is =
    sym is ∙ ap (if_found n (others keys before n ns)) put.0
    ∙ ap (λ (place : ℕ). Err (record { reason = reason; at = place })) (sym put.1)
put_none keys n ns before made stops.TooLong put is = absurd put
put_none keys n ns before made stops.Memory put is = tt

-- the need of a number is needed
is_reached : (shown : List HeldNeedAt) (i : ℕ) (d : HeldNeedAt) → i < length shown
    → is_needed (need_seen (get_or shown i d).need) (needs_seen shown) ≡ true
is_reached [] i d inside = absurd (omega (arith, inside))
is_reached (n ∷ ns) zero d inside =
    or_left (is_same (need_seen n.need) (need_seen n.need)) (is_needed (need_seen n.need) (needs_seen ns))
    (same_self (need_seen n.need))
is_reached (n ∷ ns) (suc i) d inside =
    let need = need_seen (get_or ns i d).need in
    or_right (is_same (need_seen n.need) need) (is_needed need (needs_seen ns))
    (is_reached ns i d (omega (arith, inside)))

pub is_asked : (shown : List HeldNeedAt) (needs : List NeedAt) (i : ℕ) (d : HeldNeedAt) → i < length shown
    → needs_seen shown ≡ needs → is_needed (need_seen (get_or shown i d).need) needs ≡ true
is_asked shown needs i d inside same =
    subst (λ (ns : List NeedAt). is_needed (need_seen (get_or shown i d).need) ns ≡ true) same
    (is_reached shown i d inside)

-- the next of the values; `shown` are the same values as the code holds them
module _ (keys : Finder) (needs : List NeedAt) (shown : List HeldNeedAt) (same : needs_seen shown ≡ needs) (i : ℕ)
    (d : HeldNeedAt) (inside : i < length shown) (key : Result Found Reason)
    (is : key ≡ keys (need_at_seen (get_or shown i d)).need) where
  left_over : drop i needs ≡ need_at_seen (get_or shown i d) ∷ drop (i + 1) needs
  left_over =
      let next : suc i ≡ i + 1 = omega arith in
      subst (λ (ns : List NeedAt). drop i ns ≡ need_at_seen (get_or shown i d) ∷ drop (i + 1) ns) same
      (drop-map need_at_seen i shown ∙ ap (map need_at_seen) (drop-cons shown i d inside)
      ∙ ap (λ (k : ℕ). need_at_seen (get_or shown i d) ∷ needs_seen (drop k shown)) next
      ∙ ap (λ (ns : List NeedAt). need_at_seen (get_or shown i d) ∷ ns) (sym (drop-map need_at_seen (i + 1) shown)))

  pub next_put : (before now : Table) (made : Result Table Refusal)
      → PutsKey (need_at_seen (get_or shown i d)) key before now (Ok tt)
      → table_from keys before (drop i needs) ≡ made → table_from keys now (drop (i + 1) needs) ≡ made
  next_put before now made put left =
      put_more keys (need_at_seen (get_or shown i d)) (drop (i + 1) needs) before now (put.0, sym is ∙ put.1, put.2)
      ∙ ap (λ (ns : List NeedAt). table_from keys before ns) (sym left_over) ∙ left

  pub next_none : (before : Table) (made : Result Table Refusal) (stop : KeysStop)
      → StopsAt (need_at_seen (get_or shown i d)) key stop
      → table_from keys before (drop i needs) ≡ made → TellsTable made (Err stop)
  next_none before made stop put left =
      put_none keys (need_at_seen (get_or shown i d)) (drop (i + 1) needs) before made stop
      (subst (λ (k : Result Found Reason). StopsAt (need_at_seen (get_or shown i d)) k stop) is put)
      (ap (λ (ns : List NeedAt). table_from keys before ns) (sym left_over) ∙ left)

-- the data key of a need, where the key that meets it was looked up
pub of_found : (kept : List KeyDoc) (master : List ℕ) (need : Need) (found : Option KeyDoc) → found ≡ key_by kept need
    → found_key master found ≡ finder kept master need
of_found kept master need found is = ap (found_key master) is

-- the same under the master key of a cache
pub of_cached : (kept : List KeyDoc) (now master : List ℕ) (need : Need) (found : Option KeyDoc) → now ≡ master
    → found ≡ key_by kept need → found_key now found ≡ finder kept master need
of_cached kept now master need found same is =
    ap (λ (m : List ℕ). found_key m found) same ∙ of_found kept master need found is
