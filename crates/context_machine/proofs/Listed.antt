-- The values of one of the two lists of a filter for keys, need by need.
use Rattle.std.proofs.Common.{◌≡◌, ◌∙◌, ◌≤◌, ◌<◌, ℕ, ◌+◌, ◌*◌, List, [], ◌∷◌, ◌++◌, length, drop, map, get_or, refl}
use Rattle.std.proofs.Common.{ap, arith, subst, suc}
use Rattle.std.specs.Prelude.{decimal}
use Rattle.std.proofs.lemmas.List.{append-nil}
use Rattle.std.proofs.Math.Seq.{drop-cons}
use Rattle.bson_tree.specs.Spelling.{items_bytes}
use Rattle.bson_tree.specs.Tree.{Tree}
use Rattle.payload6.specs.Needs.{Need, Id, Name, need_seen}
use Rattle.context_machine.specs.declared.keys_asked.Choice.{Choice}
use Rattle.context_machine.specs.declared.keys_asked.Choice.TheVariants as choices
use Rattle.context_machine.specs.declared.need.NeedAt.{NeedAt as HeldNeedAt}
use Rattle.context_machine.specs.Asks.{listed, listed_one, numbered, room_for, room_in, text, uuid}
use Rattle.context_machine.specs.Needs.{NeedAt, need_at_seen, needs_seen}
use Rattle.context_machine.proofs.Frames.{then}

-- the next need, of those that the code holds
next_need : (shown : List HeldNeedAt) (i : ℕ) (d : HeldNeedAt) → i < length shown
    → needs_seen (drop i shown) ≡ need_at_seen (get_or shown i d) ∷ needs_seen (drop (i + 1) shown)
next_need shown i d inside =
    let next : suc i ≡ i + 1 = omega arith in
    ap (map need_at_seen)
    (drop-cons shown i d inside ∙ ap (λ (k : ℕ). get_or shown i d ∷ drop k shown) next)

-- a need in the list takes room for a value, any other none
room_least : (choice : Choice) (need : Need) → 63 * length (listed_one choice need) ≤ room_in choice need
room_least choices.Ids (Id id) = omega arith
room_least choices.Ids (Name name) = omega arith
room_least choices.Names (Id id) = omega arith
room_least choices.Names (Name name) = omega arith

one_listed : (value : Tree) (values : List Tree) (i next : ℕ) (old a whole : List ℕ)
    → a ≡ old ++ items_bytes (numbered i (value ∷ [])) → next ≡ i + 1
    → old ++ items_bytes (numbered i (value ∷ values)) ≡ whole → a ++ items_bytes (numbered next values) ≡ whole
one_listed value values i next old a whole put is e =
    ap (λ (k : ℕ). a ++ items_bytes (numbered k values)) is
    ∙ then old a (a ++ items_bytes (numbered (i + 1) values)) (decimal i) value (numbered (i + 1) values) put refl ∙ e

none_listed : (values : List Tree) (i next : ℕ) (old a whole : List ℕ) → a ≡ old ++ [] → next ≡ i + 0
    → old ++ items_bytes (numbered i values) ≡ whole → a ++ items_bytes (numbered next values) ≡ whole
none_listed values i next old a whole put is e =
    let same : next ≡ i = omega (arith, is) in
    ap (λ (k : ℕ). a ++ items_bytes (numbered k values)) same
    ∙ ap (λ (x : List ℕ). x ++ items_bytes (numbered i values)) (put ∙ append-nil old) ∙ e

-- what is put for one need, before those behind it
next_listed : (choice : Choice) (n : NeedAt) (ns : List NeedAt) (i next : ℕ) (old a whole : List ℕ)
    → a ≡ old ++ items_bytes (numbered i (listed_one choice n.need)) → next ≡ i + length (listed_one choice n.need)
    → old ++ items_bytes (numbered i (listed choice (n ∷ ns))) ≡ whole
    → a ++ items_bytes (numbered next (listed choice ns)) ≡ whole
next_listed choice n ns i next old a whole put is e = by choice n.need put is e
  where
    by : (choice : Choice) (need : Need) → a ≡ old ++ items_bytes (numbered i (listed_one choice need))
        → next ≡ i + length (listed_one choice need)
        → old ++ items_bytes (numbered i (listed choice (record { need = need; at = n.at } ∷ ns))) ≡ whole
        → a ++ items_bytes (numbered next (listed choice ns)) ≡ whole
    by choices.Ids (Id id) put is e = one_listed (uuid id) (listed choices.Ids ns) i next old a whole put is e
    by choices.Ids (Name name) put is e = none_listed (listed choices.Ids ns) i next old a whole put is e
    by choices.Names (Id id) put is e = none_listed (listed choices.Names ns) i next old a whole put is e
    by choices.Names (Name name) put is e = one_listed (text name) (listed choices.Names ns) i next old a whole put is e

-- ---- need by need, as the code holds them

module _ (choice : Choice) (shown : List HeldNeedAt) (i : ℕ) (d : HeldNeedAt) (inside : i < length shown) where
  abbrev own : Need
  own = need_seen (get_or shown i d).need

  abbrev room_from : ℕ → ℕ
  room_from k = room_for choice (needs_seen (drop k shown))

  room_next : room_from i ≡ room_in choice own + room_from (i + 1)
  room_next = ap (room_for choice) (next_need shown i d inside)

  pub short_one : (number old : ℕ) → 63 * number + room_from i ≤ room_for choice (needs_seen shown)
      → old + room_for choice (needs_seen shown) ≤ 1073742060 → room_in choice own ≤ 1073742060
  short_one number old few room = omega (arith, room_next, few, room)

  pub size_one : (old now whole : ℕ) → old + room_from i ≤ whole → now ≤ old + room_in choice own
      → now + room_from (i + 1) ≤ whole
  size_one old now whole before put = omega (arith, room_next, before, put)

  pub few_one : (number next whole : ℕ) → 63 * number + room_from i ≤ whole
      → next ≡ number + length (listed_one choice own) → 63 * next + room_from (i + 1) ≤ whole
  few_one number next whole before is = omega (arith, room_next, room_least choice own, before, is)

  pub put_one : (number next : ℕ) (old a whole : List ℕ)
      → a ≡ old ++ items_bytes (numbered number (listed_one choice own))
      → next ≡ number + length (listed_one choice own)
      → old ++ items_bytes (numbered number (listed choice (needs_seen (drop i shown)))) ≡ whole
      → a ++ items_bytes (numbered next (listed choice (needs_seen (drop (i + 1) shown)))) ≡ whole
  put_one number next old a whole put is e =
      next_listed choice (need_at_seen (get_or shown i d)) (needs_seen (drop (i + 1) shown)) number next old a whole put
      is
      (subst (λ (ns : List NeedAt). old ++ items_bytes (numbered number (listed choice ns)) ≡ whole)
      (next_need shown i d inside) e)
