-- What was looked up is kept for a slot, and stands where each of its rules reads it.
use Rattle.std.proofs.Common.{◌≡◌, ◌==◌, ℕ, zero, suc, Bool, true, false, cond, ◌&&◌, not, List, [], ◌∷◌, ◌++◌}
use Rattle.std.proofs.Common.{Option, Some, None, option_map, is_some, slice_get, refl, sym, ap, subst, ◌∙◌}
use Rattle.std.proofs.lemmas.Bool.{eqb-true}
use Rattle.std.specs.Cmp.Lexicographic.{bytes_decides}
use Rattle.bson_codec.specs.Borrowed.{At}
use Rattle.encrypt_schema.specs.declared.command.marks.Span.{Span}
use Rattle.encrypt_schema.specs.declared.command.reason.Reason.TheVariants.{PointerBad}
use Rattle.encrypt_schema.specs.declared.schema.policy.KeyRef.{KeyRef}
use Rattle.encrypt_schema.specs.declared.schema.policy.Policy.{Policy}
use Rattle.encrypt_schema.specs.Language.Policies.{is_same_key, policy_at}
use Rattle.encrypt_schema.specs.Language.Row.{Row}
use Rattle.encrypt_schema.specs.Commands.Offences.{is_pointer, pointer_offence}
use Rattle.encrypt_schema.specs.Commands.Pointers.{Target, Targets, nth_span, nth_target, target_of}
use Rattle.encrypt_schema.specs.Commands.Stations.{Store}
use Rattle.encrypt_schema.specs.Views.Walking.{targets_seen}
use Rattle.encrypt_schema.specs.Views.Pointing.{AreKept}
use Rattle.encrypt_schema.specs.Views.Slots.{ShareKeys, nth_known}
use Rattle.encrypt_schema.specs.declared.schema.policy.KeyRef.TheVariants.{Id, Pointer}
use Rattle.encrypt_schema.proofs.Commands.PointerSpans.{by_id, key_found, key_past, nth_targets, span_by_id, span_seen}
use Rattle.encrypt_schema.proofs.Paths.Paths.{path_same}

there : (b : Bool) (o : Option Target) (name : Span) → Some name ≡ option_map (λ t. t.span) o
    → None ≡ cond (b && not (is_some o)) (Some PointerBad) None
there true (Some t) name e = refl
there false (Some t) name e = refl
there b None name e = absurd cc

-- a rule whose target is there isn't refused for it
pub found_clean : (rows : List Row) (ts : Targets) (i : ℕ) (name : Span) → Some name ≡ nth_span i ts
    → None ≡ pointer_offence rows ts (Store i)
found_clean rows ts i name e = there (is_pointer (policy_at i rows).key) (nth_target i ts) name e

-- no text names the key of a rule with an id
pub nameless : (rows : List Row) (root : Option At) (i : ℕ) (id : List ℕ) → (policy_at i rows).key ≡ Id id
    → None ≡ nth_span i (targets_seen rows root)
nameless rows None i id e = refl
nameless rows (Some d) i id e = sym (ap span_seen (span_by_id rows i id d.start d.tree e))

-- and it is refused for no pointer
pub clean_by_id : (rows : List Row) (root : Option At) (i : ℕ) (id : List ℕ) → (policy_at i rows).key ≡ Id id
    → None ≡ pointer_offence rows (targets_seen rows root) (Store i)
clean_by_id rows root i id e = sym (by_id rows (targets_seen rows root) i id e)

-- a rule with an id, or none: no text names its key, and it is refused for no pointer
pub ruleset by_ids = (nameless, clean_by_id, key_found, key_past)

-- a key that is the same is one key
pub same_key : (key other : KeyRef) → is_same_key key other ≡ true → key ≡ other
same_key (Id id) (Id other) e = ap Id ((bytes_decides id other).0 e)
same_key (Id id) (Pointer others) e = absurd cc
same_key (Pointer names) (Id other) e = absurd cc
same_key (Pointer names) (Pointer others) e = ap Pointer (path_same names others e)

-- the rule that is there has a key, if its own is the same
pub has_key : (i : ℕ) (rows : List Row) (policy : Policy) (key : KeyRef)
    → Some policy ≡ option_map (λ (row : Row). row.policy) (slice_get rows i) → true ≡ is_same_key policy.key key
    → (policy_at i rows).key ≡ key
has_key i rows policy key there same = key_found i rows policy there ∙ same_key policy.key key (sym same)

-- under the key of a rule whose key is the same a policy says the same
pub under_same : (rows : List Row) (i : ℕ) (first policy made : Policy)
    → Some first ≡ option_map (λ (row : Row). row.policy) (slice_get rows i)
    → (policy_at i rows).key ≡ policy.key
    → made ≡ record { algorithm = policy.algorithm; key = first.key; types = policy.types } → made ≡ policy
under_same rows i first policy made there same under =
    under ∙ ap (λ (key : KeyRef). record { algorithm = policy.algorithm; key = key; types = policy.types })
    (sym (key_found i rows first there) ∙ same)

-- rules of one key have one target
pub shared_span : (rows : List Row) (root : Option At) (i j : ℕ) (name : Span)
    → (policy_at j rows).key ≡ (policy_at i rows).key → Some name ≡ nth_span j (targets_seen rows root)
    → Some name ≡ nth_span i (targets_seen rows root)
shared_span rows None i j name same found = found
shared_span rows (Some d) i j name same found =
    found
    ∙ ap span_seen (nth_targets j rows d.start d.tree ∙ ap (target_of rows d.start d.tree) same
    ∙ sym (nth_targets i rows d.start d.tree))

-- at first nothing is kept
pub none_kept : (rows : List Row) (root : Option At) (slots : List (Option ℕ)) (names : List (Option Span)) → names ≡ []
    → ShareKeys slots rows → AreKept rows root slots names
none_kept rows root slots names empty shared =
    subst (AreKept rows root slots) (sym empty) (record { shared = shared; kept = λ i s name a b. absurd cc })

-- what is kept
pub kept_there : (rows : List Row) (root : Option At) (slots : List (Option ℕ)) (names : List (Option Span))
    → AreKept rows root slots names → (i s : ℕ) (name : Span) → Some s ≡ nth_known slots i
    → Some name ≡ nth_known names s → Some name ≡ nth_span i (targets_seen rows root)
kept_there rows root slots names h i s name a b = h.kept i s name (sym a) (sym b)

module _ (rows : List Row) (root : Option At) (slots : List (Option ℕ)) (old new : List (Option Span))
    (h : AreKept rows root slots old) (j slot : ℕ) (name : Span) (has : Some slot ≡ nth_known slots j)
    (is : Some name ≡ nth_span j (targets_seen rows root)) where
  by_slot : (i s : ℕ) (other : Span) (here : Bool) → (s == slot) ≡ here → nth_known slots i ≡ Some s
      → cond here (Some name) (nth_known old s) ≡ Some other → Some other ≡ nth_span i (targets_seen rows root)
  by_slot i s other true e a b = sym b
      ∙ shared_span rows root i j name
      (h.shared j i slot (sym has) (subst (λ (k : ℕ). nth_known slots i ≡ Some k) (eqb-true s slot e) a)) is
  by_slot i s other false e a b = h.kept i s other a b

  by_room : (room : Bool) → ((s : ℕ) → nth_known new s ≡ cond (room && s == slot) (Some name) (nth_known old s))
      → (i s : ℕ) (other : Span) → nth_known slots i ≡ Some s → nth_known new s ≡ Some other
      → Some other ≡ nth_span i (targets_seen rows root)
  by_room true put i s other a b = by_slot i s other (s == slot) refl a (sym (put s) ∙ b)
  by_room false put i s other a b = h.kept i s other a (sym (put s) ∙ b)

  -- one more is kept
  pub one_kept : (room : Bool) → ((s : ℕ) → nth_known new s ≡ cond (room && s == slot) (Some name) (nth_known old s))
      → AreKept rows root slots new
  one_kept room put = record { shared = h.shared; kept = by_room room put }

-- a place more in which nothing is kept
pub known_longer : (names : List (Option Span)) (s : ℕ) → nth_known (names ++ None ∷ []) s ≡ nth_known names s
known_longer [] zero = refl
known_longer [] (suc s) = refl
known_longer (x ∷ names) zero = refl
known_longer (x ∷ names) (suc s) = known_longer names s
