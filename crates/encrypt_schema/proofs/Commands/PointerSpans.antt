-- Where a pointer's target stands, by the calls on checked values.
use Rattle.std.proofs.Common.{◌≡◌, eqb, ℕ, zero, suc, ◌+◌, ◌≤◌, Bool, true, false, cond, ◌&&◌, not, List, []}
use Rattle.std.proofs.Common.{◌∷◌}
use Rattle.std.proofs.Common.{length, map, Option, Some, None, option_map, is_some, slice_get}
use Rattle.std.proofs.Common.{refl, sym, ap, ◌∙◌, arith}
use Rattle.bson_tree.specs.Tree.{Tree, leaf, node, Items, tag_of}
use Rattle.bson_codec.specs.Layout.{string_bytes}
use Rattle.encrypt_schema.specs.declared.command.marks.Span.{Span}
use Rattle.encrypt_schema.specs.declared.command.reason.Reason.TheVariants.{PointerBad}
use Rattle.encrypt_schema.specs.declared.schema.policy.KeyRef.{KeyRef}
use Rattle.encrypt_schema.specs.declared.schema.policy.KeyRef.TheVariants.{Id, Pointer}
use Rattle.encrypt_schema.specs.declared.schema.policy.Policy.{Policy}
use Rattle.encrypt_schema.specs.Language.Policies.{policy_at}
use Rattle.encrypt_schema.specs.Language.Row.{Row}
use Rattle.encrypt_schema.specs.Commands.Offences.{is_pointer, pointer_offence}
use Rattle.encrypt_schema.specs.Commands.Pointers.{Target, Targets, target_in, target_of, targets_of, nth_target}
use Rattle.encrypt_schema.specs.Commands.Stations.{Store}
use Rattle.encrypt_schema.proofs.Language.PolicyAt.{policy_found, policy_past}
use Rattle.encrypt_schema.proofs.Language.Texts.{text_is}

-- the span of a target
abbrev pub span_seen : Option Target → Option Span
span_seen o = option_map (λ t. t.span) o

-- that of a string's text
pub string_span : (t : Tree) (at : ℕ) (text : List ℕ) → t ≡ leaf 2 (string_bytes text)
    → span_seen (target_in [] at t) ≡ Some (record { start = at + 4; end = at + 4 + length text })
string_span t at text e =
    rw e (ap (λ (x : List ℕ). Some (record { start = at + 4; end = at + 4 + length x })) (text_is text))

leaf_span : (at tag : ℕ) (bytes : List ℕ) (b : Bool) → eqb tag 2 ≡ b → b ≡ false
    → span_seen (target_in [] at (leaf tag bytes)) ≡ None
leaf_span at tag bytes true h e = absurd cc
leaf_span at tag bytes false h e = rw h refl

-- another value has none
pub no_string_span : (t : Tree) (at : ℕ) → eqb (tag_of t) 2 ≡ false → span_seen (target_in [] at t) ≡ None
no_string_span (leaf tag bytes) at h = leaf_span at tag bytes (eqb tag 2) refl h
no_string_span (node tag is) at h = refl

pub ruleset strings = (string_span, no_string_span)

not_document : (name : List ℕ) (names : List (List ℕ)) (at tag : ℕ) (is : Items) (b : Bool) → eqb tag 3 ≡ b → b ≡ false
    → span_seen (target_in (name ∷ names) at (node tag is)) ≡ None
not_document name names at tag is true h e = absurd cc
not_document name names at tag is false h e = rw h refl

-- names lead on from a document alone
pub no_document_span : (names : List (List ℕ)) (at : ℕ) (t : Tree) → 1 ≤ length names → eqb (tag_of t) 3 ≡ false
    → span_seen (target_in names at t) ≡ None
no_document_span [] at t n h = absurd (omega (arith, n))
no_document_span (name ∷ names) at (leaf tag bytes) n h = refl
no_document_span (name ∷ names) at (node tag is) n h = not_document name names at tag is (eqb tag 3) refl h

nth_of : (i : ℕ) (rows all : List Row) (at : ℕ) (is : Items)
    → nth_target i (map (λ row. target_of all at is row.policy.key) rows) ≡ target_of all at is (policy_at i rows).key
unfolding policy_at
nth_of i [] all at is = refl
nth_of zero (row ∷ rows) all at is = refl
nth_of (suc i) (row ∷ rows) all at is = nth_of i rows all at is

-- the target of a rule's pointer is that of its policy's key
pub nth_targets : (i : ℕ) (rows : List Row) (at : ℕ) (is : Items)
    → nth_target i (targets_of rows at is) ≡ target_of rows at is (policy_at i rows).key
unfolding targets_of
nth_targets i rows at is = nth_of i rows rows at is

-- a rule with an id is refused for no pointer
pub by_id : (rows : List Row) (ts : Targets) (i : ℕ) (id : List ℕ) → (policy_at i rows).key ≡ Id id
    → pointer_offence rows ts (Store i) ≡ None
by_id rows ts i id e =
    ap (λ (k : KeyRef). cond (is_pointer k && not (is_some (nth_target i ts))) (Some PointerBad) None) e

-- one with a pointer is, where its target isn't there
pub by_pointer : (rows : List Row) (ts : Targets) (i : ℕ) (names : List (List ℕ)) → (policy_at i rows).key
    ≡ Pointer names
    → pointer_offence rows ts (Store i) ≡ cond (not (is_some (nth_target i ts))) (Some PointerBad) None
by_pointer rows ts i names e =
    ap (λ (k : KeyRef). cond (is_pointer k && not (is_some (nth_target i ts))) (Some PointerBad) None) e

-- the rule that is there
pub key_found : (i : ℕ) (rows : List Row) (policy : Policy)
    → Some policy ≡ option_map (λ (row : Row). row.policy) (slice_get rows i) → (policy_at i rows).key ≡ policy.key
key_found i rows policy e = ap (λ (p : Policy). p.key) (policy_found i rows policy (sym e))

-- past the last rule there is no pointer
pub key_past : (i : ℕ) (rows : List Row) → None ≡ option_map (λ (row : Row). row.policy) (slice_get rows i)
    → (policy_at i rows).key ≡ Id []
key_past i rows e = ap (λ (p : Policy). p.key) (policy_past i rows (sym e))

-- no rule, or one with an id: no name
pub span_by_id : (rows : List Row) (i : ℕ) (id : List ℕ) (at : ℕ) (is : Items) → (policy_at i rows).key ≡ Id id
    → nth_target i (targets_of rows at is) ≡ None
span_by_id rows i id at is e = nth_targets i rows at is ∙ ap (target_of rows at is) e

pub ruleset names = (nth_targets, by_id, by_pointer, key_found, key_past, span_by_id)
