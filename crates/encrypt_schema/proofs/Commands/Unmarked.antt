-- Without rules, and in commands that pass unchanged, nothing is protected.
use Rattle.std.proofs.Common.{◌≡◌, ℕ, ◌+◌, Bool, true, false, cond, ◌&&◌, ◌||◌, List, [], ◌∷◌, ◌++◌, codes, length}
use Rattle.std.proofs.Common.{Option, None, refl, ap, ap₂, ◌∙◌}
use Rattle.std.proofs.lemmas.Bool.{false≢true}
use Rattle.std.proofs.lemmas.Slice.Eq.{bytes_eq-Decides}
use Rattle.bson_tree.specs.Tree.{Tree, leaf, node, Items, no_items, item}
use Rattle.bson_tree.specs.Spelling.{value_bytes}
use Rattle.encrypt_schema.specs.declared.path.class.Class.{Class}
use Rattle.encrypt_schema.specs.declared.path.class.Class.TheVariants.{Clear}
use Rattle.encrypt_schema.specs.declared.command.marks.Mark.{Mark}
use Rattle.encrypt_schema.specs.Language.Names.{named, is_among}
use Rattle.encrypt_schema.specs.Language.Row.{Row}
use Rattle.encrypt_schema.specs.Paths.Classes.{class}
use Rattle.encrypt_schema.specs.Paths.Dotted.{split, is_dollar, positional}
use Rattle.encrypt_schema.specs.declared.command.listed.FieldKind.{FieldKind}
use Rattle.encrypt_schema.specs.declared.command.listed.FieldKind.TheVariants as kinds
use Rattle.encrypt_schema.specs.declared.command.listed.Listed.TheVariants as lists
use Rattle.encrypt_schema.specs.Commands.ListedFields.{delete_item_kind, delete_kind, field_kind, find_kind}
use Rattle.encrypt_schema.specs.Commands.ListedFields.{insert_kind, update_item_kind, update_kind}
use Rattle.encrypt_schema.specs.Commands.Stations.{Fields, Keys, IndexKeys, Indexes, Own, Chosen, Bounds, held_at}
use Rattle.encrypt_schema.specs.Commands.Stations.{inside_of, other_at}
use Rattle.encrypt_schema.specs.Commands.Stations.{Entry, Station, Outside, Insert, Update, Delete, Find, Inserts}
use Rattle.encrypt_schema.specs.Commands.Stations.{Updates, Deletes, UpdateItem, DeleteItem, Filter, Cases, Projection}
use Rattle.encrypt_schema.specs.Commands.Stations.{Test, Elements, Operators, Sets, Argument, operator_of, Document}
use Rattle.encrypt_schema.specs.Commands.Stations.{Store, Compare, Passed, is_document, is_array, is_operators}
use Rattle.encrypt_schema.specs.Commands.Stations.{is_dollar_first, has_name, is_logical, is_set, dotted, station}
use Rattle.encrypt_schema.specs.Commands.Stations.{stored_at, tested_at, command_of, passed_names, is_passed}
use Rattle.encrypt_schema.specs.Commands.Offences.{least, target_offence, view_offence, ruled_offence, of_role}
use Rattle.encrypt_schema.specs.Commands.Offences.{command_lacks, first_reason, pointer_offence}
use Rattle.encrypt_schema.specs.Language.Collection.{Collection}
use Rattle.encrypt_schema.specs.declared.command.reason.Reason.{Reason}
use Rattle.encrypt_schema.specs.Commands.Pointers.{Targets, pointed}
use Rattle.encrypt_schema.specs.Commands.Visits.{names_of, entry, command_entry, Visit, visit, visits_in, visits}
use Rattle.encrypt_schema.specs.Commands.Visits.{command_visit, command_visits, mark_at, marks, roles, target_of}
use Rattle.encrypt_schema.specs.Commands.Visits.{view_of, ruled_of, content_of, first_refusal, or_else, refused_at}
use Rattle.encrypt_schema.specs.Commands.Visits.{verdict_on}
use Rattle.encrypt_schema.proofs.Commands.Silence.{marks_append, silent, IsQuiet, target_quiet, view_quiet}
use Rattle.encrypt_schema.proofs.Commands.Tables.{library_elim}
use Rattle.encrypt_schema.proofs.Commands.Silence.{content_quiet}

-- what is no value that is tested or protected
abbrev pub is_free : Station → Bool
is_free (Test x) = false
is_free (Elements x) = false
is_free (Store i) = false
is_free (Compare i) = false
is_free _ = true

-- without rules each path is clear
class_none : (path : List (List ℕ)) → class [] path ≡ Clear
unfolding class
class_none path = refl

dotted_none : (name : List ℕ) → dotted [] name ≡ Clear
dotted_none name =
    elim (positional [] (split name)) as (λ b. cond b Clear (class [] (split name))
    ≡ Clear) [ true ↦ refl | false ↦ class_none (split name) ]

free_cond : (b : Bool) (s u : Station) → is_free s ≡ true → is_free u ≡ true → is_free (cond b s u) ≡ true
free_cond true s u p q = p
free_cond false s u p q = q

command_free : (names : List (List ℕ)) → is_free (command_of names) ≡ true
command_free [] = refl
command_free (n ∷ ns) =
    free_cond (named n (codes "insert")) Insert _ refl
    (free_cond (named n (codes "update")) Update _ refl
    (free_cond (named n (codes "delete")) Delete _ refl
    (free_cond (named n (codes "find")) Find _ refl
    (free_cond (is_passed n) Passed _ refl (library_elim (λ s. is_free s ≡ true) (λ l c. refl) refl n)))))

free_held : (k : FieldKind) (e : Entry) → is_free (held_at k e) ≡ true
free_held kinds.Filter e = free_cond (is_document e) Filter Passed refl refl
free_held kinds.Update e =
    free_cond (is_document e) _ Passed (free_cond (is_dollar_first e.names) Operators (Document []) refl refl) refl
free_held kinds.Keys e = free_cond (is_document e) Keys Passed refl refl
free_held kinds.IndexKeys e = free_cond (is_document e) IndexKeys Passed refl refl
free_held kinds.Hint e = free_cond (is_document e) IndexKeys Passed refl refl
free_held kinds.Indexes e = free_cond (is_array e) Indexes Passed refl refl
free_held (kinds.Own own) e = free_cond (is_document e) (Own own) Passed refl refl
free_held kinds.Path e = refl
free_held kinds.Word e = refl
free_held kinds.Unlisted e = refl

free_inside : (k : FieldKind) → is_free (inside_of k) ≡ true
free_inside kinds.Keys = refl
free_inside kinds.IndexKeys = refl
free_inside kinds.Hint = refl
free_inside (kinds.Own own) = refl
free_inside _ = refl

free_other : (k : FieldKind) (e : Entry) → is_free (other_at k e) ≡ true
free_other k e = free_cond (is_document e) _ Passed (free_inside k) refl

free_child : (s : Station) (e : Entry) → is_free s ≡ true → is_free (station [] s e) ≡ true
free_child Outside e h = command_free e.names
free_child Insert e h =
    free_cond (has_name (codes "documents") e && is_array e) Inserts _ refl (free_other (insert_kind e.name) e)
free_child Inserts e h = free_cond (is_document e) (Document []) Passed refl refl
free_child Update e h =
    free_cond (has_name (codes "updates") e && is_array e) Updates _ refl (free_other (update_kind e.name) e)
free_child Delete e h =
    free_cond (has_name (codes "deletes") e && is_array e) Deletes _ refl (free_other (delete_kind e.name) e)
free_child Find e h =
    free_cond (has_name (codes "filter") e && is_document e) Filter _ refl
    (free_cond (has_name (codes "projection") e && is_document e) Projection _ refl
    (free_other (find_kind e.name) e))
free_child Projection e h = free_cond (is_document e) Chosen Passed refl refl
free_child Chosen e h = free_cond (has_name (codes "$slice") e && is_array e) Bounds Passed refl refl
free_child (Fields l) e h = free_held (field_kind l e.name) e
free_child Indexes e h = free_cond (is_document e) (Fields lists.Index) Passed refl refl
free_child Updates e h = free_cond (is_document e) UpdateItem Passed refl refl
free_child Deletes e h = free_cond (is_document e) DeleteItem Passed refl refl
free_child UpdateItem e h =
    free_cond (has_name (codes "q") e && is_document e) Filter _ refl
    (free_cond (has_name (codes "u") e && is_document e) _ _
    (free_cond (is_dollar_first e.names) Operators (Document []) refl refl) (free_other (update_item_kind e.name) e))
free_child DeleteItem e h =
    free_cond (has_name (codes "q") e && is_document e) Filter _ refl (free_other (delete_item_kind e.name) e)
free_child (Document p) e h =
    ap (λ (c : Class). is_free (stored_at c (p ++ e.name ∷ []) (is_document e))) (class_none (p ++ e.name ∷ []))
free_child Filter e h =
    free_cond (is_logical e.name) _ _ (free_cond (is_array e) Cases Passed refl refl)
    (free_cond (is_dollar e.name) Passed _ refl (ap (λ (c : Class). is_free (tested_at c (is_operators e)))
    (dotted_none e.name)))
free_child Cases e h = free_cond (is_document e) Filter Passed refl refl
free_child Operators e h =
    free_cond (is_set e.name && is_document e) Sets _ refl
    (free_cond (is_dollar e.name && is_document e) (Argument (operator_of e.name)) Passed refl refl)
free_child Sets e h =
    ap (λ (c : Class). is_free (stored_at c (split e.name) (is_document e))) (dotted_none e.name)
free_child (Test x) e h = absurd (false≢true h)
free_child (Elements x) e h = absurd (false≢true h)
free_child (Store i) e h = absurd (false≢true h)
free_child (Compare i) e h = absurd (false≢true h)
free_child _ e h = refl

free_unmarked : (s : Station) (v : Visit) → is_free s ≡ true → mark_at s v ≡ []
free_unmarked (Store i) v h = absurd (false≢true h)
free_unmarked (Compare i) v h = absurd (false≢true h)
free_unmarked _ v h = refl

free_item : (s : Station) (ts : Targets) (at : ℕ) (elder : List (List ℕ)) (name : List ℕ) (t : Tree)
    (vs us : List Visit)
    → is_free s ≡ true
    → marks [] vs ≡ [] → marks [] us ≡ [] → marks [] (visit s ts elder at name t ∷ (vs ++ us)) ≡ []
free_item s ts at elder name t vs us h p q =
    ap (λ (ms : List Mark). ms ++ marks [] (vs ++ us))
    (free_unmarked (station [] s (entry name t)) (visit s ts elder at name t) (free_child s (entry name t) h))
    ∙ (marks_append [] vs us ∙ (ap (λ (ms : List Mark). ms ++ marks [] us) p ∙ q))

mutual
  free_in : (s : Station) (ts : Targets) (at : ℕ) (t : Tree) → is_free s ≡ true → marks [] (visits_in [] s ts at t) ≡ []
  free_in s ts at (leaf tag bytes) h = refl
  free_in s ts at (node tag is) h = free_among s (pointed [] s ts at is) (at + 4) [] is h

  free_among : (s : Station) (ts : Targets) (at : ℕ) (elder : List (List ℕ)) (is : Items) → is_free s ≡ true
      → marks [] (visits [] s ts at elder is) ≡ []
  free_among s ts at elder no_items h = refl
  free_among s ts at elder (item name t is) h =
      free_item s ts at elder name t
      (visits_in [] (station [] s (entry name t)) ts (at + (2 + length name)) t)
      (visits [] s ts (at + (2 + length name) + length (value_bytes t)) (elder ++ name ∷ []) is)
      h
      (free_in (station [] s (entry name t)) ts (at + (2 + length name)) t (free_child s (entry name t) h))
      (free_among s ts (at + (2 + length name) + length (value_bytes t)) (elder ++ name ∷ []) is h)

-- without rules nothing is protected
pub no_rows_no_roles : (at : ℕ) (c : Items) → roles [] at c ≡ []
no_rows_no_roles at c =
    let h = command_free (command_entry c).names in
    ap
    (λ (ms : List Mark). ms
    ++ marks []
    (visits [] (station [] Outside (command_entry c))
    (pointed [] (station [] Outside (command_entry c)) [] at c) (at + 4) [] c))
    (free_unmarked (station [] Outside (command_entry c)) (command_visit c) h)
    ∙ free_among (station [] Outside (command_entry c)) (pointed [] (station [] Outside (command_entry c)) [] at c)
    (at + 4) [] c h

-- commands that pass

either_true : (b c : Bool) {P : Type 0} → (b || c) ≡ true → (b ≡ true → P) → (c ≡ true → P) → P
either_true true c h p q = p refl
either_true false c h p q = q h

passes : (name word : List ℕ) (names : List (List ℕ)) → named name word ≡ true
    → command_of (word ∷ []) ≡ Passed → command_of (name ∷ names) ≡ Passed
unfolding named
passes name word names h p =
    ap (λ (n : List ℕ). command_of (n ∷ names)) ((bytes_eq-Decides name word).0 h) ∙ p

-- words that begin no marked command
abbrev pub AllPass : List (List ℕ) → Type 0
AllPass [] = Unit {0}
AllPass (word ∷ words) = (command_of (word ∷ []) ≡ Passed) × AllPass words

pass_among : (name : List ℕ) (names words : List (List ℕ)) → AllPass words → is_among name words ≡ true
    → command_of (name ∷ names) ≡ Passed
pass_among name names [] a h = absurd (false≢true h)
pass_among name names (word ∷ words) a h =
    either_true (named name word) (is_among name words) h (λ e. passes name word names e a.0)
    (λ e. pass_among name names words a.1 e)

-- a command that passes is not looked into
pub passed_command : (name : List ℕ) (names : List (List ℕ)) → is_passed name ≡ true
    → command_of (name ∷ names) ≡ Passed
unfolding is_passed named
passed_command name names h =
    pass_among name names passed_names (refl, (refl, (refl, (refl, (refl, (refl, (refl, (refl, tt)))))))) h

unread : (rows : List Row) (at : ℕ) (c : Items) (s : Station) (ts : Targets) → s ≡ Passed
    → mark_at s (command_visit c) ++ marks rows (visits rows s ts at [] c) ≡ []
unread rows at c s ts e =
    let a = (silent (target_of []) rows Passed ts at [] c (target_quiet []) refl).0 in
    ap (λ (u : Station). mark_at u (command_visit c) ++ marks rows (visits rows u ts at [] c)) e ∙ a

-- in a command that passes nothing is protected
pub passed_no_roles : (rows : List Row) (at : ℕ) (name : List ℕ) (t : Tree) (is : Items) → is_passed name ≡ true
    → roles rows at (item name t is) ≡ []
passed_no_roles rows at name t is h = unread rows (at + 4) (item name t is) _
    (pointed rows (command_of (name ∷ names_of is)) [] at (item name t is))
    (passed_command name (names_of is) h)

unjudged : (pass : Visit → Option Reason) (rows : List Row) (at : ℕ) (c : Items) (s : Station) (ts : Targets)
    → IsQuiet pass
    → pass (command_visit c) ≡ None → s ≡ Passed
    → or_else (refused_at 0 (pass (command_visit c))) (first_refusal pass (visits rows s ts at [] c)) ≡ None
unjudged pass rows at c s ts quiet own e =
    ap (λ (r : Option Reason). or_else (refused_at 0 r) (first_refusal pass (visits rows s ts at [] c))) own
    ∙ ap (λ (u : Station). first_refusal pass (visits rows u ts at [] c)) e
    ∙ (silent pass rows Passed ts at [] c quiet refl).1

target_free : (db : List ℕ) (name : List ℕ) (t : Tree) (is : Items)
    → target_of db (command_visit (item name t is)) ≡ None
unfolding target_offence
target_free db name t is = refl

view_free : (info : Option Collection) (c : Items) → view_of info (command_visit c) ≡ None
unfolding view_offence
view_free info c = refl

ruled_free : (rows : List Row) (c : Items) (s : Station) → station rows Outside (command_entry c) ≡ s → s ≡ Passed
    → ruled_of rows (command_visit c) ≡ None
unfolding ruled_offence
ruled_free rows c s is e = ap (λ (u : Station). first_reason
    (least (of_role rows u (command_entry c) ++ command_lacks u (names_of c))) (pointer_offence rows [] u)) (is ∙ e)

content_free : (rows : List Row) (c : Items) → station rows Outside (command_entry c) ≡ Passed
    → content_of rows (command_visit c) ≡ None
content_free [] c e = refl
content_free (row ∷ rows) c e = ruled_free (row ∷ rows) c _ refl e

-- and nothing is refused
pub passed_no_refusal : (db : List ℕ) (info : Option Collection) (rows : List Row) (at : ℕ) (name : List ℕ) (t : Tree)
    (is : Items) → is_passed name ≡ true
    → verdict_on db info rows (command_visits rows at (item name t is)) ≡ None
passed_no_refusal db info rows at name t is h =
    let c : Items = item name t is in
    let e = passed_command name (names_of is) h in
    let ts = pointed rows (station rows Outside (command_entry c)) [] at c in
    ap₂ or_else (unjudged (target_of db) rows (at + 4) c (station rows Outside (command_entry c)) ts (target_quiet db)
    (target_free db name t is) e)
    (ap₂ or_else (unjudged (view_of info) rows (at + 4) c (station rows Outside (command_entry c)) ts (view_quiet info)
    (view_free info c) e)
    (unjudged (content_of rows) rows (at + 4) c (station rows Outside (command_entry c)) ts (content_quiet rows)
    (content_free rows c e) e))
