-- The slots of rules: of none, and of one more.
use Rattle.std.proofs.Common.{◌≡◌, ◌<◌, ◌≤◌, ◌+◌, ◌⊎◌, ℕ, zero, suc, List, [], ◌∷◌, ◌++◌, length}
use Rattle.std.proofs.Common.{Option, Some, None, refl, sym, ap, subst, ◌∙◌, arith, inl, inr, ⊎_elim}
use Rattle.std.proofs.lemmas.List.{length_push}
use Rattle.encrypt_schema.specs.declared.schema.policy.KeyRef.{KeyRef}
use Rattle.encrypt_schema.specs.declared.schema.policy.Policy.{Policy}
use Rattle.encrypt_schema.specs.Language.Policies.{policy_at}
use Rattle.encrypt_schema.specs.Language.Row.{Row}
use Rattle.encrypt_schema.specs.Views.Slots.{nth_known, AreSlots}

-- no rule has a slot
pub no_slots : (slots : List (Option ℕ)) (count : ℕ) → slots ≡ [] → count ≡ 0 → AreSlots slots count []
no_slots slots count empty none = subst (λ (xs : List (Option ℕ)). AreSlots xs count []) (sym empty) (record {
  shared = λ i j s a b. absurd cc;
  below = λ i s a. absurd cc;
  few = omega (arith, none);
  each = refl;
})

-- what a list with one more has at a place, it had before, or it is the last
known_push : (ss : List (Option ℕ)) (o : Option ℕ) (i s : ℕ) → nth_known (ss ++ o ∷ []) i ≡ Some s
    → ((i < length ss) × (nth_known ss i ≡ Some s)) ⊎ ((i ≡ length ss) × (o ≡ Some s))
known_push [] o zero s e = inr (refl, e)
known_push [] o (suc i) s e = absurd cc
known_push (x ∷ ss) o zero s e = inl (omega arith, e)
known_push (x ∷ ss) o (suc i) s e = ⊎_elim
    (λ (h : (i < length ss) × (nth_known ss i ≡ Some s)). let less = h.0 in inl (omega (arith, less), h.1))
    (λ (h : (i ≡ length ss) × (o ≡ Some s)). inr (ap suc h.0, h.1))
    (known_push ss o i s e)

policy_kept : (rows : List Row) (row : Row) (i : ℕ) → i < length rows
    → policy_at i (rows ++ row ∷ []) ≡ policy_at i rows
unfolding policy_at
policy_kept [] row i less = absurd (omega (arith, less))
policy_kept (r ∷ rows) row zero less = refl
policy_kept (r ∷ rows) row (suc i) less = policy_kept rows row i (omega (arith, less))

policy_last : (rows : List Row) (row : Row) (i : ℕ) → i ≡ length rows → policy_at i (rows ++ row ∷ []) ≡ row.policy
unfolding policy_at
policy_last [] row zero e = refl
policy_last [] row (suc i) e = absurd (omega (arith, e))
policy_last (r ∷ rows) row zero e = absurd (omega (arith, e))
policy_last (r ∷ rows) row (suc i) e = policy_last rows row i (omega (arith, e))

-- one more rule may have this slot: it is below the number of slots, and the rules that have it have its key
pub record IsSlot (slots : List (Option ℕ)) (count more : ℕ) (rows : List Row) (key : KeyRef) (slot : Option ℕ)
    : Type 0 where
  pub less : count ≤ more
  pub most : more ≤ count + 1
  pub below : (s : ℕ) → slot ≡ Some s → s < more
  pub same : (i s : ℕ) → nth_known slots i ≡ Some s → slot ≡ Some s → (policy_at i rows).key ≡ key

module _ (slots : List (Option ℕ)) (count more : ℕ) (rows : List Row) (row : Row) (slot : Option ℕ)
    (h : AreSlots slots count rows) (n : IsSlot slots count more rows row.policy.key slot) where
  abbrev key_of : ℕ → KeyRef
  key_of i = (policy_at i (rows ++ row ∷ [])).key

  kept : (i : ℕ) → i < length slots → key_of i ≡ (policy_at i rows).key
  kept i less = ap (λ (p : Policy). p.key)
      (policy_kept rows row i (subst (λ (k : ℕ). i < k) h.each less))

  last : (i : ℕ) → i ≡ length slots → key_of i ≡ row.policy.key
  last i is = ap (λ (p : Policy). p.key) (policy_last rows row i (is ∙ h.each))

  shared : (i j s : ℕ) → nth_known (slots ++ slot ∷ []) i ≡ Some s → nth_known (slots ++ slot ∷ []) j ≡ Some s
      → key_of i ≡ key_of j
  shared i j s a b = ⊎_elim
      (λ (x : (i < length slots) × (nth_known slots i ≡ Some s)). kept i x.0 ∙ ⊎_elim
      (λ (y : (j < length slots) × (nth_known slots j ≡ Some s)). h.shared i j s x.1 y.1 ∙ sym (kept j y.0))
      (λ (y : (j ≡ length slots) × (slot ≡ Some s)). n.same i s x.1 y.1 ∙ sym (last j y.0))
      (known_push slots slot j s b))
      (λ (x : (i ≡ length slots) × (slot ≡ Some s)). last i x.0 ∙ ⊎_elim
      (λ (y : (j < length slots) × (nth_known slots j ≡ Some s)). sym (n.same j s y.1 x.1) ∙ sym (kept j y.0))
      (λ (y : (j ≡ length slots) × (slot ≡ Some s)). sym (last j y.0))
      (known_push slots slot j s b))
      (known_push slots slot i s a)

  below : (i s : ℕ) → nth_known (slots ++ slot ∷ []) i ≡ Some s → s < more
  below i s a = ⊎_elim
      (λ (x : (i < length slots) × (nth_known slots i ≡ Some s)).
      let inside = h.below i s x.1 in let less = n.less in omega (arith, inside, less))
      (λ (x : (i ≡ length slots) × (slot ≡ Some s)). n.below s x.1)
      (known_push slots slot i s a)

  pub slots_push : AreSlots (slots ++ slot ∷ []) more (rows ++ row ∷ [])
  slots_push = record {
    shared = shared;
    below = below;
    few = let long = length_push slots slot in let few = h.few in let most = n.most in omega (arith, long, few, most);
    each = length_push slots slot ∙ ap (λ (k : ℕ). k + 1) h.each ∙ sym (length_push rows row);
  }

-- none
pub slot_none : (slots : List (Option ℕ)) (count : ℕ) (rows : List Row) (row : Row) → AreSlots slots count rows
    → AreSlots (slots ++ None ∷ []) count (rows ++ row ∷ [])
slot_none slots count rows row h = slots_push slots count count rows row None h (record {
  less = omega arith;
  most = omega arith;
  below = λ s e. absurd cc;
  same = λ i s a e. absurd cc;
})

-- that of a rule with the same key
pub slot_again : (slots : List (Option ℕ)) (count : ℕ) (rows : List Row) (row : Row) (i : ℕ) → AreSlots slots count rows
    → (policy_at i rows).key ≡ row.policy.key
    → AreSlots (slots ++ nth_known slots i ∷ []) count (rows ++ row ∷ [])
slot_again slots count rows row i h key = slots_push slots count count rows row (nth_known slots i) h (record {
  less = omega arith;
  most = omega arith;
  below = λ s e. h.below i s e;
  same = λ j s a e. h.shared j i s a e ∙ key;
})

-- a new one
pub slot_new : (slots : List (Option ℕ)) (count : ℕ) (rows : List Row) (row : Row) → AreSlots slots count rows
    → AreSlots (slots ++ Some count ∷ []) (count + 1) (rows ++ row ∷ [])
slot_new slots count rows row h = slots_push slots count (count + 1) rows row (Some count) h (record {
  less = omega arith;
  most = omega arith;
  below = λ s e. let same : count ≡ s = cc in omega (arith, same);
  same = λ i s a e. let same : count ≡ s = cc in let inside = h.below i s a in absurd (omega (arith, same, inside));
})

pub ruleset adds = (slot_none, slot_again, slot_new)
