-- In a command that isn't refused each mark has what names its key: its rule's id, or the text of its pointer's target.
use Rattle.std.proofs.Common.{◌≡◌, ◌∙◌, ℕ, ◌+◌, Bool, true, false, not, ◌&&◌, cond, List, [], ◌∷◌, Option, Some}
use Rattle.std.proofs.Common.{None, is_some, option_map, refl, ap, ap₂}
use Rattle.std.specs.List.{list_all}
use Rattle.std.proofs.lemmas.List.Folds.{list_all-append}
use Rattle.bson_tree.specs.Spelling.{items_bytes}
use Rattle.bson_codec.specs.Borrowed.{At}
use Rattle.encrypt_schema.specs.declared.command.marks.Mark.{Mark}
use Rattle.encrypt_schema.specs.declared.command.reason.Reason.{Reason}
use Rattle.encrypt_schema.specs.declared.command.reason.Reason.TheVariants.{PointerBad}
use Rattle.encrypt_schema.specs.declared.schema.policy.KeyRef.{KeyRef}
use Rattle.encrypt_schema.specs.declared.schema.policy.KeyRef.TheVariants as keys
use Rattle.encrypt_schema.specs.Language.Policies.{policy_at}
use Rattle.encrypt_schema.specs.Language.Row.{Row}
use Rattle.encrypt_schema.specs.Commands.Offences.{is_pointer, first_reason, lacks_target, pointer_offence}
use Rattle.encrypt_schema.specs.Commands.Offences.{ruled_offence}
use Rattle.encrypt_schema.specs.Commands.Pointers.{Target, nth_target}
use Rattle.encrypt_schema.specs.Commands.Stations.{Station, Store, Compare}
use Rattle.encrypt_schema.specs.Commands.Visits.{Visit, command_visits, content_of, content_verdict}
use Rattle.encrypt_schema.specs.Commands.Visits.{first_refusal, mark_at, marks, refused_at, roles, station_of, text_in}
use Rattle.encrypt_schema.proofs.Commands.Refused.{first_none, second_none}
use Rattle.encrypt_schema.proofs.Commands.Unmarked.{no_rows_no_roles}
use Rattle.payload6.specs.Needs.{need_by, need_of}

-- a mark has what names its key
abbrev pub is_needed : List Row → At → Mark → Bool
is_needed rows d m = is_some (need_of rows d m)

by_target : (key : KeyRef) (o : Option Target) (first : ℕ) (bytes : List ℕ)
    → (is_pointer key && not (is_some o)) ≡ false
    → is_some (need_by key (option_map (text_in first bytes) (option_map (λ t. t.span) o))) ≡ true
by_target (keys.Id id) o first bytes h = refl
by_target (keys.Pointer names) None first bytes h = absurd cc
by_target (keys.Pointer names) (Some t) first bytes h = refl

not_lacking : (b : Bool) → cond b (Some PointerBad) None ≡ None → b ≡ false
not_lacking true h = absurd cc
not_lacking false h = refl

-- the mark of a place that has no offence by its pointer
own_need : (rows : List Row) (d : At) (s : Station) (v : Visit) → pointer_offence rows v.targets s ≡ None
    → list_all (is_needed rows d) (mark_at s v) ≡ true
own_need rows d (Store i) v h =
    let b = by_target (policy_at i rows).key (nth_target i v.targets) (d.start + 4) (items_bytes d.tree)
    (not_lacking (lacks_target rows v.targets i) h) in
    ap (λ (x : Bool). x && true) b
own_need rows d (Compare i) v h =
    let b = by_target (policy_at i rows).key (nth_target i v.targets) (d.start + 4) (items_bytes d.tree)
    (not_lacking (lacks_target rows v.targets i) h) in
    ap (λ (x : Bool). x && true) b
own_need rows d _ v h = refl

unrefused : (at : ℕ) (o : Option Reason) → refused_at at o ≡ None → o ≡ None
unrefused at None e = refl
unrefused at (Some reason) e = absurd cc

later_none : (a b : Option Reason) → first_reason a b ≡ None → b ≡ None
later_none None b e = e
later_none (Some reason) b e = absurd cc

all_needed : (row : Row) (rows : List Row) (d : At) (vs : List Visit)
    → first_refusal (content_of (row ∷ rows)) vs ≡ None
    → list_all (is_needed (row ∷ rows) d) (marks (row ∷ rows) vs) ≡ true
all_needed row rows d [] h = refl
all_needed row rows d (v ∷ vs) h =
    let all = row ∷ rows in
    let here = refused_at v.start (content_of all v) in
    let rest = first_refusal (content_of all) vs in
    let none : content_of all v ≡ None = unrefused v.start (content_of all v) (first_none here rest h) in
    let own = later_none (ruled_offence all v.parent v.elder v.entry)
    (pointer_offence all v.targets (station_of all v)) none in
    list_all-append (is_needed all d) (mark_at (station_of all v) v) (marks all vs)
    ∙ ap₂ (λ (x y : Bool). x && y) (own_need all d (station_of all v) v own)
    (all_needed row rows d vs (second_none here rest h))

pub marks_needed : (rows : List Row) (d : At) → content_verdict rows d.start d.tree ≡ None
    → list_all (λ m. is_some (need_of rows d m)) (roles rows d.start d.tree) ≡ true
marks_needed [] d h = ap (list_all (is_needed [] d)) (no_rows_no_roles d.start d.tree)
marks_needed (row ∷ rows) d h = all_needed row rows d (command_visits (row ∷ rows) d.start d.tree) h
