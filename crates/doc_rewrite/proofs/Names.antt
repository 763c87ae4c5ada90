-- The marks of a command have names exactly where their rules' keys are pointers, and those lie in the command.
use Rattle.std.proofs.Common.{◌≡◌, ◌∙◌, ℕ, zero, suc, ◌+◌, ◌-◌, Bool, true, false, cond, List, [], ◌∷◌, ◌++◌}
use Rattle.std.proofs.Common.{length, map, take, drop, Option, Some, None, option_map, refl, sym, ap, subst, arith}
use Rattle.std.specs.Prelude.{is_some, IfSome, not, ◌&&◌}
use Rattle.std.proofs.lemmas.List.{append-nil}
use Rattle.bson_codec.specs.Borrowed.{At}
use Rattle.bson_tree.specs.Tree.{Tree, leaf, node, Items, no_items, item}
use Rattle.bson_tree.specs.Spelling.{value_bytes, items_bytes, doc_bytes}
use Rattle.encrypt_schema.specs.declared.command.marks.Mark.{Mark}
use Rattle.encrypt_schema.specs.declared.command.marks.Role.TheVariants as role
use Rattle.encrypt_schema.specs.declared.command.marks.Span.{Span}
use Rattle.encrypt_schema.specs.declared.command.reason.Reason.{Reason}
use Rattle.encrypt_schema.specs.declared.command.reason.Reason.TheVariants as reasons
use Rattle.encrypt_schema.specs.declared.schema.policy.KeyRef.{KeyRef}
use Rattle.encrypt_schema.specs.declared.schema.policy.KeyRef.TheVariants as refs
use Rattle.encrypt_schema.specs.Language.Policies.{policy_at}
use Rattle.encrypt_schema.specs.Language.Row.{Row}
use Rattle.encrypt_schema.specs.Paths.Classes.{class}
use Rattle.encrypt_schema.specs.Paths.Dotted.{is_clear}
use Rattle.encrypt_schema.specs.Commands.Offences.{first_reason, is_pointer, lacks_target, pointer_offence}
use Rattle.encrypt_schema.specs.Commands.Offences.{ruled_offence}
use Rattle.encrypt_schema.specs.Commands.Pointers.{Target, Targets, is_whole, nth_span, nth_target, pointed, target_in}
use Rattle.encrypt_schema.specs.Commands.Pointers.{target_of, targets_of}
use Rattle.encrypt_schema.specs.Commands.Stations.{Station, Outside, Store, Compare, station}
use Rattle.encrypt_schema.specs.Commands.Visits.{entry, command_entry, Visit, visits_in, visits, command_visits}
use Rattle.encrypt_schema.specs.Commands.Visits.{content_of, first_refusal, mark, mark_at, marks, refused_at, roles}
use Rattle.encrypt_schema.specs.Commands.Visits.{station_of}
use Rattle.encrypt_schema.proofs.Commands.PointerTexts.{IsAt, Part, items_part, lifted, part_of_part, rest_part}
use Rattle.encrypt_schema.proofs.Commands.PointerTexts.{target_stands, value_part}
use Rattle.doc_rewrite.specs.Plans.{AreById, AreNamed, IsNamed, LiesIn}
use Rattle.doc_rewrite.proofs.Sealable.{later_none, offence_none, first_none}
use Rattle.encrypt_schema.proofs.Commands.SpanTexts.{not_whole}

-- ---- a rule's target

-- targets stand in these bytes, and a rule by an id has none
record Fits (rows : List Row) (first : ℕ) (bytes : List ℕ) (ts : Targets) : Type 0 where
  pub stands : (i : ℕ) (t : Target) → nth_target i ts ≡ Some t → IsAt first bytes t
  pub ids : (i : ℕ) → is_pointer (policy_at i rows).key ≡ false → nth_target i ts ≡ None

none_fit : (rows : List Row) (first : ℕ) (bytes : List ℕ) → Fits rows first bytes []
none_fit rows first bytes = record { stands = λ i t e. absurd cc; ids = λ i e. refl }

key_stands : (rows : List Row) (at : ℕ) (is : Items) (key : KeyRef) (t : Target)
    → target_of rows at is key ≡ Some t → IsAt at (doc_bytes is) t
key_stands rows at is (refs.Id id) t h = absurd cc
key_stands rows at is (refs.Pointer names) t h = by (is_clear (class rows names)) h where
  by : (b : Bool) → cond b (target_in names at (node 3 is)) None ≡ Some t → IsAt at (doc_bytes is) t
  by true h = target_stands names at (node 3 is) t h
  by false h = absurd cc

all_stand : (rows all : List Row) (first : ℕ) (bytes : List ℕ) (at : ℕ) (is : Items)
    → Part first bytes at (doc_bytes is) → (i : ℕ) (t : Target)
    → nth_target i (map (λ row. target_of all at is row.policy.key) rows) ≡ Some t → IsAt first bytes t
all_stand [] all first bytes at is p i t h = absurd cc
all_stand (row ∷ rows) all first bytes at is p zero t h =
    lifted first bytes at (doc_bytes is) t p (key_stands all at is row.policy.key t h)
all_stand (row ∷ rows) all first bytes at is p (suc i) t h = all_stand rows all first bytes at is p i t h

id_none : (rows : List Row) (at : ℕ) (is : Items) (key : KeyRef) → is_pointer key ≡ false
    → target_of rows at is key ≡ None
id_none rows at is (refs.Id id) e = refl
id_none rows at is (refs.Pointer names) e = absurd cc

all_ids : (rows all : List Row) (at : ℕ) (is : Items) (i : ℕ) → is_pointer (policy_at i rows).key ≡ false
    → nth_target i (map (λ row. target_of all at is row.policy.key) rows) ≡ None
unfolding policy_at
all_ids [] all at is i e = refl
all_ids (row ∷ rows) all at is zero e = id_none all at is row.policy.key e
all_ids (row ∷ rows) all at is (suc i) e = all_ids rows all at is i e

inside_fit : (rows : List Row) (first : ℕ) (bytes : List ℕ) (ts : Targets) (at : ℕ) (is : Items) (b : Bool)
    → Part first bytes at (doc_bytes is) → Fits rows first bytes ts
    → Fits rows first bytes (cond b (targets_of rows at is) ts)
unfolding targets_of
inside_fit rows first bytes ts at is true p f =
    record { stands = all_stand rows rows first bytes at is p; ids = all_ids rows rows at is }
inside_fit rows first bytes ts at is false p f = f

outside_fit : (rows : List Row) (first : ℕ) (bytes : List ℕ) (ts : Targets) (b : Bool) → b ≡ false
    → Fits rows first bytes (cond b ts [])
outside_fit rows first bytes ts true e = absurd cc
outside_fit rows first bytes ts false e = none_fit rows first bytes

-- ---- those of all places

module _ (rows : List Row) (first : ℕ) (bytes : List ℕ) where
  abbrev AllFit : List Visit → Type 0
  AllFit [] = Unit {0}
  AllFit (v ∷ vs) = Fits rows first bytes v.targets × AllFit vs

  both_fit : (vs us : List Visit) → AllFit vs → AllFit us → AllFit (vs ++ us)
  both_fit [] us a b = b
  both_fit (v ∷ vs) us a b = (a.0, both_fit vs us a.1 b)

  mutual
    fit_in : (s : Station) (ts : Targets) (at : ℕ) (t : Tree) → Part first bytes at (value_bytes t)
        → Fits rows first bytes ts → AllFit (visits_in rows s ts at t)
    fit_in s ts at (leaf tag b) p f = tt
    fit_in s ts at (node tag is) p f =
        fit_among s (pointed rows s ts at is) (at + 4) [] is
        (part_of_part first bytes at (value_bytes (node tag is)) (at + 4) (items_bytes is) p (items_part at tag is))
        (inside_fit rows first bytes ts at is (is_whole s) p f)

    fit_among : (s : Station) (ts : Targets) (at : ℕ) (elder : List (List ℕ)) (is : Items)
        → Part first bytes at (items_bytes is) → Fits rows first bytes ts → AllFit (visits rows s ts at elder is)
    fit_among s ts at elder no_items p f = tt
    fit_among s ts at elder (item name t is) p f = (
      f,
      both_fit (visits_in rows (station rows s (entry name t)) ts (at + (2 + length name)) t)
          (visits rows s ts (at + (2 + length name) + length (value_bytes t)) (elder ++ name ∷ []) is)
          (fit_in (station rows s (entry name t)) ts (at + (2 + length name)) t
          (part_of_part first bytes at (items_bytes (item name t is)) (at + (2 + length name)) (value_bytes t) p
          (value_part at name t is)) f)
          (fit_among s ts (at + (2 + length name) + length (value_bytes t)) (elder ++ name ∷ []) is
          (part_of_part first bytes at (items_bytes (item name t is)) (at + (2 + length name) + length (value_bytes t))
          (items_bytes is) p (rest_part at name t is)) f),
    )

self_part : (at : ℕ) (bytes : List ℕ) → Part at bytes at bytes
self_part at bytes = record {
  front = [];
  behind = [];
  whole = sym (append-nil bytes);
  starts = omega arith;
}

command_fits : (rows : List Row) (d : At)
    → AllFit rows (d.start + 4) (items_bytes d.tree) (command_visits rows d.start d.tree)
command_fits rows d =
    let first = d.start + 4 in
    let bytes = items_bytes d.tree in
    let s = station rows Outside (command_entry d.tree) in (
      none_fit rows first bytes,
      fit_among rows first bytes s (pointed rows s [] d.start d.tree) first [] d.tree (self_part first bytes)
          (outside_fit rows first bytes (targets_of rows d.start d.tree) (is_whole s)
          (not_whole (command_entry d.tree).names)),
    )

-- ---- no pointer of a protected place leads nowhere

abbrev HasTarget : List Row → Station → Targets → Type 0
HasTarget rows (Store i) ts = lacks_target rows ts i ≡ false
HasTarget rows (Compare i) ts = lacks_target rows ts i ≡ false
HasTarget rows _ ts = Unit {0}

abbrev AllHave : List Row → List Visit → Type 0
AllHave rows [] = Unit {0}
AllHave rows (v ∷ vs) = HasTarget rows (station_of rows v) v.targets × AllHave rows vs

key_by_id : (rows : List Row) (i : ℕ) → AreById rows → is_pointer (policy_at i rows).key ≡ false
unfolding policy_at
key_by_id [] i h = refl
key_by_id (row ∷ rows) zero h = h.0
key_by_id (row ∷ rows) (suc i) h = key_by_id rows i h.1

id_has : (rows : List Row) (s : Station) (ts : Targets) → AreById rows → HasTarget rows s ts
id_has rows (Store i) ts h = let id = key_by_id rows i h in rw id refl
id_has rows (Compare i) ts h = let id = key_by_id rows i h in rw id refl
id_has rows _ ts h = tt

all_by_id : (rows : List Row) (vs : List Visit) → AreById rows → AllHave rows vs
all_by_id rows [] h = tt
all_by_id rows (v ∷ vs) h = (id_has rows (station_of rows v) v.targets h, all_by_id rows vs h)

lacks_none : (b : Bool) → cond b (Some reasons.PointerBad) None ≡ None → b ≡ false
lacks_none true e = absurd cc
lacks_none false e = refl

second_none : (a b : Option Reason) → first_reason a b ≡ None → b ≡ None
second_none None b e = e
second_none (Some r) b e = absurd cc

offence_has : (rows : List Row) (s : Station) (ts : Targets) → pointer_offence rows ts s ≡ None → HasTarget rows s ts
offence_has rows (Store i) ts e = lacks_none (lacks_target rows ts i) e
offence_has rows (Compare i) ts e = lacks_none (lacks_target rows ts i) e
offence_has rows _ ts e = tt

all_clean : (row : Row) (rows : List Row) (vs : List Visit) → first_refusal (content_of (row ∷ rows)) vs ≡ None
    → AllHave (row ∷ rows) vs
all_clean row rows [] e = tt
all_clean row rows (v ∷ vs) e =
    let off = offence_none v.start (content_of (row ∷ rows) v)
    (first_none (refused_at v.start (content_of (row ∷ rows) v)) _ e) in (
      offence_has (row ∷ rows) (station_of (row ∷ rows) v) v.targets
          (second_none (ruled_offence (row ∷ rows) v.parent v.elder v.entry) _ off),
      all_clean row rows vs (later_none (refused_at v.start (content_of (row ∷ rows) v)) _ e),
    )

-- ---- so each mark is named

module _ (rows : List Row) (d : At) where
  abbrev FitsHere : Targets → Type 0
  FitsHere ts = Fits rows (d.start + 4) (items_bytes d.tree) ts

  exact : (o : Option Target) (p : Bool) → (p && not (is_some o)) ≡ false → (p ≡ false → o ≡ None)
      → is_some (option_map (λ t. t.span) o) ≡ p
  exact None true e h = absurd cc
  exact (Some t) true e h = refl
  exact None false e h = refl
  exact (Some t) false e h = let none : Some t ≡ None = h refl in absurd cc

  lies : (o : Option Target) → ((t : Target) → o ≡ Some t → IsAt (d.start + 4) (items_bytes d.tree) t)
      → IfSome (option_map (λ t. t.span) o) (λ span. LiesIn d span)
  lies None h = tt
  lies (Some t) h =
      let is = h t refl in
      let n : t.span.end - t.span.start ≡ length t.text = omega (arith, is.to) in (
        is.from,
        ap (λ (m : ℕ). length (take m (drop (t.span.start - (d.start + 4)) (items_bytes d.tree)))) n
            ∙ ap length is.text ∙ sym n,
      )

  named_one : (v : Visit) (i : ℕ) (m : Mark) → m.name ≡ nth_span i v.targets → m.policy ≡ i → FitsHere v.targets
      → lacks_target rows v.targets i ≡ false → IsNamed rows d m
  named_one v i m name policy fits has =
      let o = nth_target i v.targets in
      subst (λ (x : Option Span). (is_some x ≡ is_pointer (policy_at m.policy rows).key)
      × IfSome x (λ span. LiesIn d span)) (sym name)
      (subst (λ (j : ℕ). (is_some (nth_span i v.targets) ≡ is_pointer (policy_at j rows).key)
      × IfSome (nth_span i v.targets) (λ span. LiesIn d span)) (sym policy) (
        exact o (is_pointer (policy_at i rows).key) has (fits.ids i),
        lies o (fits.stands i),
      ))

  named_at : (s : Station) (v : Visit) (rest : List Mark) → FitsHere v.targets → HasTarget rows s v.targets
      → AreNamed rows d rest → AreNamed rows d (mark_at s v ++ rest)
  named_at (Store i) v rest fits has others = (named_one v i (mark v i role.Store) refl refl fits has, others)
  named_at (Compare i) v rest fits has others = (named_one v i (mark v i role.Compare) refl refl fits has, others)
  named_at _ v rest fits has others = others

  all_named : (vs : List Visit) → AllFit rows (d.start + 4) (items_bytes d.tree) vs → AllHave rows vs
      → AreNamed rows d (marks rows vs)
  all_named [] fit have = tt
  all_named (v ∷ vs) fit have =
      named_at (station_of rows v) v (marks rows vs) fit.0 have.0 (all_named vs fit.1 have.1)

pub ids_named : (rows : List Row) (d : At) → AreById rows → AreNamed rows d (roles rows d.start d.tree)
ids_named rows d h =
    all_named rows d (command_visits rows d.start d.tree) (command_fits rows d)
    (all_by_id rows (command_visits rows d.start d.tree) h)

pub clean_named : (rows : List Row) (d : At)
    → first_refusal (content_of rows) (command_visits rows d.start d.tree) ≡ None
    → AreNamed rows d (roles rows d.start d.tree)
clean_named [] d e = ids_named [] d tt
clean_named (row ∷ rows) d e =
    all_named (row ∷ rows) d (command_visits (row ∷ rows) d.start d.tree) (command_fits (row ∷ rows) d)
    (all_clean row rows (command_visits (row ∷ rows) d.start d.tree) e)
