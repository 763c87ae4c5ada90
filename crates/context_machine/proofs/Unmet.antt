-- The needs that no key of a vault meets, need by need.
use Rattle.std.proofs.Common.{◌≡◌, ◌∙◌, ◌+◌, ◌<◌, ◌≤◌, ◌++◌, ◌∷◌, [], ℕ, suc, Bool, true, false, List, length, drop}
use Rattle.std.proofs.Common.{get_or, map, refl, sym, ap, arith, append_assoc, append-nil}
use Rattle.std.proofs.Math.Seq.{drop-cons}
use Rattle.bson_tree.specs.Spelling.{doc_bytes}
use Rattle.data_key.specs.declared.key_doc.KeyDoc.{KeyDoc}
use Rattle.payload6.specs.Needs.{need_seen}
use Rattle.context_machine.specs.Asks.{filter_of, key_filter}
use Rattle.context_machine.specs.Kept.{is_met, unless_met, unmet}
use Rattle.context_machine.specs.Needs.{NeedAt, ids_of, names_of, need_at_seen, needs_seen}
use Rattle.context_machine.specs.declared.need.NeedAt.{NeedAt as HeldNeedAt}

-- one is put between those before and those behind
beside : (met : Bool) (n : NeedAt) (before ns : List NeedAt)
    → (before ++ unless_met met n []) ++ ns ≡ before ++ unless_met met n ns
beside true n before ns = ap (λ (xs : List NeedAt). xs ++ ns) (append-nil before)
beside false n before ns = append_assoc before (n ∷ []) ns

pub next_unmet : (keys : List KeyDoc) (shown : List HeldNeedAt) (i : ℕ) (d : HeldNeedAt) → i < length shown
    → (met : Bool) (before now all : List NeedAt)
    → met ≡ is_met (need_seen (get_or shown i d).need) keys
    → now ≡ before ++ unless_met met (need_at_seen (get_or shown i d)) []
    → before ++ unmet keys (needs_seen (drop i shown)) ≡ all
    → now ++ unmet keys (needs_seen (drop (i + 1) shown)) ≡ all
next_unmet keys shown i d inside met before now all is put left =
    let n = need_at_seen (get_or shown i d) in
    let ns = unmet keys (needs_seen (drop (i + 1) shown)) in
    let next : suc i ≡ i + 1 = omega arith in
    let here : needs_seen (drop i shown) ≡ n ∷ needs_seen (drop (i + 1) shown) =
    ap (map need_at_seen) (drop-cons shown i d inside)
    ∙ ap (λ (k : ℕ). n ∷ needs_seen (drop k shown)) next in
    ap (λ (xs : List NeedAt). xs ++ ns) put ∙ beside met n before ns
    ∙ ap (λ (b : Bool). before ++ unless_met b n ns) is
    ∙ ap (λ (xs : List NeedAt). before ++ unmet keys xs) (sym here) ∙ left

-- a need that is met isn't appended, another is
pub put_true : (met : Bool) (before : List NeedAt) (n : NeedAt) → met ≡ true → before ≡ before ++ unless_met met n []
put_true met before n is =
    sym (append-nil before) ∙ ap (λ (b : Bool). before ++ unless_met b n []) (sym is)

pub put_false : (met : Bool) (before now : List NeedAt) (n : NeedAt) → now ≡ before ++ n ∷ [] → met ≡ false
    → now ≡ before ++ unless_met met n []
put_false met before now n put is = put ∙ ap (λ (b : Bool). before ++ unless_met b n []) (sym is)

-- ---- their filter

pub filter_none : (shown : List HeldNeedAt) (bytes : List ℕ) → length shown ≡ 0 → bytes ≡ []
    → bytes ≡ filter_of (needs_seen shown)
filter_none [] bytes none is = is
filter_none (n ∷ ns) bytes none is = absurd (omega (arith, none))

pub filter_made : (shown : List HeldNeedAt) → 1 ≤ length shown
    → filter_of (needs_seen shown) ≡ doc_bytes (key_filter (ids_of (needs_seen shown)) (names_of (needs_seen shown)))
filter_made [] some = absurd (omega (arith, some))
filter_made (n ∷ ns) some = refl
