-- A library's target pass over a command, by its fields one after the other.
use Rattle.std.proofs.Common.{◌≡◌, ◌∙◌, ◌+◌, ◌++◌, ◌∷◌, [], ℕ, Bool, true, false, cond, not, ◌&&◌, ◌||◌, List, length}
use Rattle.std.proofs.Common.{codes, if◌then◌else◌, Option, Some, None, Ok, Err, refl, sym, ap, ap₂, subst}
use Rattle.std.proofs.lemmas.Bool.{false≢true}
use Rattle.bson_tree.specs.Tree.{Tree, Items, node, no_items, item}
use Rattle.bson_tree.specs.Spelling.{value_bytes}
use Rattle.bson_codec.specs.Borrowed.{At, Elem}
use Rattle.bson_codec.specs.Elements.{TakesElement}
use Rattle.encrypt_schema.specs.declared.command.listed.Listed.{Listed}
use Rattle.encrypt_schema.specs.declared.command.listed.Listed.TheVariants as lists
use Rattle.encrypt_schema.specs.declared.command.marks.MarkFault.{MarkFault}
use Rattle.encrypt_schema.specs.declared.command.marks.MarkFault.TheVariants as faults
use Rattle.encrypt_schema.specs.declared.command.reason.Reason.{Reason}
use Rattle.encrypt_schema.specs.declared.command.reason.Reason.TheVariants.{NotACommand, BadField}
use Rattle.encrypt_schema.specs.Language.Names.{named, is_among}
use Rattle.encrypt_schema.specs.Commands.ListedFields.{is_command}
use Rattle.encrypt_schema.specs.Commands.More.{more_of, more_verdict, target_more, target_more_verdict, view_more}
use Rattle.encrypt_schema.specs.Commands.Offences.{when, least, text_of, is_empty, is_library, is_marked, is_string}
use Rattle.encrypt_schema.specs.Commands.Offences.{of_field, of_target}
use Rattle.encrypt_schema.specs.Commands.Stations.{Entry, Station, Insert, Update, Delete, Find, Fields, Passed}
use Rattle.encrypt_schema.specs.Commands.Stations.{Unknown, is_passed, command_of, library_of}
use Rattle.encrypt_schema.specs.Commands.Visits.{Refusal, Visit, command_visit, command_visits, content_of, entry}
use Rattle.encrypt_schema.specs.Commands.Visits.{first_refusal, names_of, or_else, refused_at, target_of, view_of}
use Rattle.encrypt_schema.specs.Commands.Visits.{visits_in}
use Rattle.encrypt_schema.specs.Commands.Targets.{info_of, rows_of}
use Rattle.encrypt_schema.specs.Language.Collection.{Collection}
use Rattle.encrypt_schema.specs.Language.Row.{Row}
use Rattle.encrypt_schema.proofs.Commands.Fields.{command_alone, fields_refusal}
use Rattle.encrypt_schema.proofs.Commands.MoreFields.{target_more_shallow}
use Rattle.encrypt_schema.proofs.Commands.MoreWorlds.{more_quiet, target_quiet, view_quiet}
use Rattle.encrypt_schema.proofs.Commands.Silence.{IsQuiet, silent_inside}
use Rattle.encrypt_schema.proofs.Commands.Tables.{library_elim}
use Rattle.encrypt_schema.proofs.Commands.Unmarked.{passed_command}
use Rattle.command_marker.specs.declared.destination.Target.TheVariants as targets
use Rattle.command_marker.specs.Commands.{AimsMore, Refuses, passes}
use Rattle.command_marker.specs.Fields.{first_more, later_refusal}
use Rattle.command_marker.proofs.Targets.{later_reason, seen_more, station_by}
use Rattle.command_marker.proofs.Unmarked.{passing_verdict}

-- a command that is judged by its fields
abbrev takes : Station → Bool
takes s = is_marked s || is_library s

-- the offence of a field of one
abbrev offence_more : List ℕ → Station → List (List ℕ) → Entry → Option Reason
offence_more db s elder e = least (if is_library s then of_field db elder e else of_target db s elder e)

-- later fields behind these
later_fields : (db : List ℕ) (s : Station) (at : ℕ) (command : List ℕ) (others : List (List ℕ)) (is : Items)
    → ((elder : List (List ℕ)) (e : Entry) → offence_more db s elder e ≡ least (of_field db elder e))
    → fields_refusal (target_more db) s [] at (command ∷ others) is
    ≡ later_refusal db command (is_among (codes "$db") others) at is
later_fields db s at command others no_items h = refl
later_fields db s at command others (item name t is) h =
    let behind = at + (2 + length name) + length (value_bytes t) in
    ap₂ (λ (r : Option Reason) (later : Option Refusal). or_else (refused_at (at + (2 + length name)) r) later)
    (h (command ∷ others) (entry name t) ∙ later_reason db command others (entry name t))
    (later_fields db s behind command (others ++ name ∷ []) is h
    ∙ ap (λ (seen : Bool). later_refusal db command seen behind is) (seen_more others name))

-- the fields of a command of this station, told by whether it is taken
abbrev FieldsTold : (db name : List ℕ) (t : Tree) (is : Items) (n m : ℕ) → Station → Type 0
FieldsTold db name t is n m s =
    or_else (refused_at n (offence_more db s [] (entry name t)))
    (fields_refusal (target_more db) s [] m (name ∷ []) is)
    ≡ or_else
    (refused_at n
    (least
    (when (not (takes s)) NotACommand
    ++ when (takes s && (not (is_string (entry name t)) || is_empty (text_of (entry name t).raw))) BadField)))
    (later_refusal db name false m is)

listed_told : (db name : List ℕ) (t : Tree) (is : Items) (n m : ℕ) (l : Listed) → is_command l ≡ true
    → FieldsTold db name t is n m (Fields l)
listed_told db name t is n m lists.Index c = absurd (false≢true c)
listed_told db name t is n m lists.Count c =
    ap (or_else _) (later_fields db (Fields lists.Count) m name [] is (λ elder e. refl))
listed_told db name t is n m lists.FindAndModify c =
    ap (or_else _) (later_fields db (Fields lists.FindAndModify) m name [] is (λ elder e. refl))
listed_told db name t is n m lists.Distinct c =
    ap (or_else _) (later_fields db (Fields lists.Distinct) m name [] is (λ elder e. refl))
listed_told db name t is n m lists.CreateIndexes c =
    ap (or_else _) (later_fields db (Fields lists.CreateIndexes) m name [] is (λ elder e. refl))

unknown_told : (db name : List ℕ) (t : Tree) (is : Items) (n m : ℕ) → FieldsTold db name t is n m Unknown
unknown_told db name t is n m = refl

by_command : (db name : List ℕ) (t : Tree) (is : Items) (n m : ℕ) (i u d f p : Bool) (s : Station) → p ≡ false
    → FieldsTold db name t is n m s → FieldsTold db name t is n m (station_by i u d f p s)
by_command db name t is n m true u d f p s h k =
    ap (or_else _) (later_fields db Insert m name [] is (λ elder e. refl))
by_command db name t is n m false true d f p s h k =
    ap (or_else _) (later_fields db Update m name [] is (λ elder e. refl))
by_command db name t is n m false false true f p s h k =
    ap (or_else _) (later_fields db Delete m name [] is (λ elder e. refl))
by_command db name t is n m false false false true p s h k =
    ap (or_else _) (later_fields db Find m name [] is (λ elder e. refl))
by_command db name t is n m false false false false true s h k = absurd (false≢true (sym h))
by_command db name t is n m false false false false false s h k = k

-- the target pass over a command that doesn't pass
pub fields_told : (db : List ℕ) (at : ℕ) (name : List ℕ) (t : Tree) (is : Items) → is_passed name ≡ false
    → target_more_verdict db at (item name t is)
    ≡ or_else (refused_at (at + 4 + (2 + length name)) (least (first_more (entry name t))))
    (later_refusal db name false (at + 4 + (2 + length name) + length (value_bytes t)) is)
fields_told db at name t is h =
    command_alone (target_more db) [] at (item name t is) (target_more_shallow db)
    ∙ by_command db name t is (at + 4 + (2 + length name)) (at + 4 + (2 + length name) + length (value_bytes t))
    (named name (codes "insert")) (named name (codes "update")) (named name (codes "delete"))
    (named name (codes "find")) (is_passed name) (library_of name) h
    (library_elim
    (FieldsTold db name t is (at + 4 + (2 + length name)) (at + 4 + (2 + length name) + length (value_bytes t)))
    (listed_told db name t is (at + 4 + (2 + length name)) (at + 4 + (2 + length name) + length (value_bytes t)))
    (unknown_told db name t is (at + 4 + (2 + length name)) (at + 4 + (2 + length name) + length (value_bytes t))) name)

-- the document without a field is no command
pub target_none : (db : List ℕ) (at : ℕ) (c : Items) → c ≡ no_items
    → target_more_verdict db at c ≡ Some (record { reason = NotACommand; at = 0 })
target_none db at c e = ap (target_more_verdict db at) e

-- of a command that passes nothing is refused
pub passed_target : (db : List ℕ) (at : ℕ) (c : Items) → passes c ≡ true → target_more_verdict db at c ≡ None
passed_target db at no_items h = absurd (false≢true h)
passed_target db at (item name t is) h =
    subst (λ (s : Station). first_refusal (target_more db) (visits_in [] s [] at (node 3 (item name t is))) ≡ None)
    (sym (passed_command name (names_of is) h))
    (silent_inside (target_more db) [] Passed [] at (node 3 (item name t is)) (target_quiet db) refl).1

-- a command that passes is told as one, and nothing of it is refused
pub target_passes : (db : List ℕ) (c : At) (left rest : At) (e : Elem) → TakesElement left (Some e) rest
    → c.tree ≡ left.tree → is_passed e.name ≡ true
    → AimsMore db c (Ok targets.Pass)
target_passes db c left rest e taken is h =
    let passed : passes c.tree ≡ true = ap passes (is ∙ taken.0) ∙ h in
    (passed_target db c.start c.tree passed, passed)

-- the others by their fields
pub target_read : (db : List ℕ) (at : ℕ) (c : Items) (left rest : At) (e : Elem) → TakesElement left (Some e) rest
    → c ≡ left.tree → left.start ≡ at + 4 → is_passed e.name ≡ false
    → target_more_verdict db at c
    ≡ or_else (refused_at e.start (least (first_more (entry e.name e.tree))))
    (later_refusal db e.name false rest.start rest.tree)
target_read db at c left rest e taken is begun h =
    let first = least (first_more (entry e.name e.tree)) in
    let start : at + 4 + (2 + length e.name) ≡ e.start =
    ap (λ (n : ℕ). n + (2 + length e.name)) (sym begun) ∙ sym taken.1 in
    let behind : at + 4 + (2 + length e.name) + length (value_bytes e.tree) ≡ rest.start =
    ap (λ (n : ℕ). n + length (value_bytes e.tree)) start ∙ sym taken.2 in
    ap (target_more_verdict db at) (is ∙ taken.0)
    ∙ fields_told db at e.name e.tree rest.tree h
    ∙ ap₂ (λ (n m : ℕ). or_else (refused_at n first) (later_refusal db e.name false m rest.tree)) start behind

-- a refusal of the later fields is the command's
pub aims_err : (db : List ℕ) (c : At) (refusal : Option Refusal) (fault : MarkFault)
    → target_more_verdict db c.start c.tree ≡ refusal → Refuses refusal (Err fault) → AimsMore db c (Err fault)
aims_err db c refusal (faults.Refused reason at) is told = is ∙ told
aims_err db c refusal faults.Memory is told = told

-- nor does a library refuse a place of it
quiet_passing : (pass : Visit → Option Reason) (rows : List Row) (at : ℕ) (name : List ℕ) (t : Tree) (is : Items)
    → IsQuiet pass → is_passed name ≡ true → pass (command_visit (item name t is)) ≡ None
    → first_refusal pass (command_visits rows at (item name t is)) ≡ None
quiet_passing pass rows at name t is quiet h own =
    let c : Items = item name t is in
    ap (λ (r : Option Reason). or_else (refused_at 0 r) (first_refusal pass
    (visits_in rows (command_of (name ∷ names_of is)) [] at (node 3 c)))) own
    ∙ subst (λ (s : Station). first_refusal pass (visits_in rows s [] at (node 3 c)) ≡ None)
    (sym (passed_command name (names_of is) h))
    (silent_inside pass rows Passed [] at (node 3 c) quiet refl).1

own_more : (rows : List Row) (c : Items) → more_of rows (command_visit c) ≡ None
own_more [] c = refl
own_more (row ∷ rows) c = refl

last_none : (t v c : Option Refusal) → or_else t (or_else v c) ≡ None → c ≡ None
last_none None None c e = e
last_none None (Some r) c e = absurd cc
last_none (Some r) v c e = absurd cc

all_none : (t v c m : Option Refusal) → t ≡ None → v ≡ None → c ≡ None → m ≡ None
    → or_else t (or_else v (or_else c m)) ≡ None
all_none t v c m p q r s = rw (p, q, r, s) refl

pub passing_more : (db : List ℕ) (collections : List Collection) (at : ℕ) (c : Items) → passes c ≡ true
    → more_verdict db collections at c ≡ None
unfolding more_verdict
passing_more db collections at no_items h = absurd (false≢true h)
passing_more db collections at (item name t is) h =
    let c : Items = item name t is in
    let info = info_of collections c in
    let rows = rows_of collections c in
    all_none _ _ _ _
    (quiet_passing (target_more db) rows at name t is (target_quiet db) h refl)
    (quiet_passing (view_more info) rows at name t is (view_quiet info) h refl)
    (last_none (first_refusal (target_of db) (command_visits rows at c))
    (first_refusal (view_of info) (command_visits rows at c))
    (first_refusal (content_of rows) (command_visits rows at c)) (passing_verdict db collections at c h))
    (quiet_passing (more_of rows) rows at name t is (more_quiet rows) h (own_more rows c))
