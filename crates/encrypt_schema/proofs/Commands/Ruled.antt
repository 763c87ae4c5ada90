-- The mark of a protected place has the number of a rule that is there.
use Rattle.std.proofs.Common.{◌≡◌, ℕ, ◌+◌, ◌<◌, Bool, true, false, cond, ◌&&◌, not, codes, List, [], ◌∷◌, ◌++◌, length}
use Rattle.std.proofs.Common.{refl, subst, sym}
use Rattle.bson_tree.specs.Tree.{Tree, leaf, node, Items, no_items, item}
use Rattle.bson_tree.specs.Spelling.{value_bytes}
use Rattle.encrypt_schema.specs.declared.command.operators.Subject.{Subject}
use Rattle.encrypt_schema.specs.declared.command.operators.Subject.TheVariants.{Field, Prefix}
use Rattle.encrypt_schema.specs.declared.path.class.Class.{Class}
use Rattle.encrypt_schema.specs.declared.path.class.Class.TheVariants.{Protected, Below, Above, Clear}
use Rattle.encrypt_schema.specs.declared.command.marks.Mark.{Mark}
use Rattle.encrypt_schema.specs.Language.Names.{named}
use Rattle.encrypt_schema.specs.Language.Row.{Row}
use Rattle.encrypt_schema.specs.Paths.Classes.{class}
use Rattle.encrypt_schema.specs.Paths.Dotted.{split, is_dollar, positional}
use Rattle.encrypt_schema.specs.declared.command.listed.FieldKind.{FieldKind}
use Rattle.encrypt_schema.specs.declared.command.listed.FieldKind.TheVariants as kinds
use Rattle.encrypt_schema.specs.declared.command.listed.Listed.TheVariants as lists
use Rattle.encrypt_schema.specs.Commands.ListedFields.{delete_item_kind, delete_kind, field_kind, find_kind}
use Rattle.encrypt_schema.specs.Commands.ListedFields.{insert_kind, update_item_kind, update_kind}
use Rattle.encrypt_schema.specs.Commands.Stations.{Fields, Keys, IndexKeys, Indexes, Own, Chosen, Bounds, held_at}
use Rattle.encrypt_schema.specs.Commands.Stations.{inside_of, other_at}
use Rattle.encrypt_schema.specs.Commands.Stations.{Entry, Station, Outside, Insert, Update, Delete, Find, Inserts}
use Rattle.encrypt_schema.specs.Commands.Stations.{Updates, Deletes, UpdateItem, DeleteItem, Filter, Cases, Projection}
use Rattle.encrypt_schema.specs.Commands.Stations.{Test, Elements, Operators, Sets, Argument, operator_of, Document}
use Rattle.encrypt_schema.specs.Commands.Stations.{Store, Compare, Bare, Passed, Unknown, is_passed, is_document}
use Rattle.encrypt_schema.specs.Commands.Stations.{is_array, is_operators, is_dollar_first, has_name, is_logical}
use Rattle.encrypt_schema.specs.Commands.Stations.{is_equality, is_membership, is_set, is_random_field, dotted}
use Rattle.encrypt_schema.specs.Commands.Stations.{command_of, update_of, stored_at, tested_at, compared_with, station}
use Rattle.encrypt_schema.specs.Commands.Pointers.{Targets, pointed}
use Rattle.encrypt_schema.specs.Commands.Visits.{entry, command_entry, Visit, visit, visits_in, visits, command_visit}
use Rattle.encrypt_schema.specs.Commands.Visits.{mark_at, marks, roles}
use Rattle.encrypt_schema.proofs.Commands.Silence.{marks_append}
use Rattle.encrypt_schema.proofs.Commands.Tables.{library_elim}
use Rattle.encrypt_schema.proofs.Paths.Steps.{protected_inside}

-- the number of a class, a subject or a station is one of n rules
IsRuledClass : ℕ → Class → Type 0
IsRuledClass n (Protected i) = i < n
IsRuledClass n _ = Unit {0}

abbrev pub IsRuledSubject : ℕ → Subject → Type 0
IsRuledSubject n (Field i) = i < n
IsRuledSubject n Prefix = Unit {0}

abbrev pub IsRuled : ℕ → Station → Type 0
IsRuled n (Store i) = i < n
IsRuled n (Compare i) = i < n
IsRuled n (Test x) = IsRuledSubject n x
IsRuled n (Elements x) = IsRuledSubject n x
IsRuled n _ = Unit {0}

-- and so are the numbers of marks
abbrev pub AreRuled : ℕ → List Mark → Type 0
AreRuled n [] = Unit {0}
AreRuled n (m ∷ ms) = (m.policy < n) × AreRuled n ms

either : (n : ℕ) (b : Bool) (s u : Station) → IsRuled n s → IsRuled n u → IsRuled n (cond b s u)
either n true s u p q = p
either n false s u p q = q

command_ruled : (n : ℕ) (names : List (List ℕ)) → IsRuled n (command_of names)
command_ruled n [] = tt
command_ruled n (name ∷ names) =
    either n (named name (codes "insert")) Insert _ tt
    (either n (named name (codes "update")) Update _ tt
    (either n (named name (codes "delete")) Delete _ tt
    (either n (named name (codes "find")) Find _ tt
    (either n (is_passed name) Passed _ tt (library_elim (IsRuled n) (λ l c. tt) tt name)))))

update_ruled : (n : ℕ) (names : List (List ℕ)) → IsRuled n (update_of names)
update_ruled n names = either n (is_dollar_first names) Operators (Document []) tt tt

held_ruled : (n : ℕ) (k : FieldKind) (e : Entry) → IsRuled n (held_at k e)
held_ruled n kinds.Filter e = either n (is_document e) Filter Passed tt tt
held_ruled n kinds.Update e = either n (is_document e) (update_of e.names) Passed (update_ruled n e.names) tt
held_ruled n kinds.Keys e = either n (is_document e) Keys Passed tt tt
held_ruled n kinds.IndexKeys e = either n (is_document e) IndexKeys Passed tt tt
held_ruled n kinds.Hint e = either n (is_document e) IndexKeys Passed tt tt
held_ruled n kinds.Indexes e = either n (is_array e) Indexes Passed tt tt
held_ruled n (kinds.Own own) e = either n (is_document e) (Own own) Passed tt tt
held_ruled n kinds.Path e = tt
held_ruled n kinds.Word e = tt
held_ruled n kinds.Unlisted e = tt

inside_ruled : (n : ℕ) (k : FieldKind) → IsRuled n (inside_of k)
inside_ruled n kinds.Keys = tt
inside_ruled n kinds.IndexKeys = tt
inside_ruled n kinds.Hint = tt
inside_ruled n (kinds.Own own) = tt
inside_ruled n _ = tt

other_ruled : (n : ℕ) (k : FieldKind) (e : Entry) → IsRuled n (other_at k e)
other_ruled n k e = either n (is_document e) (inside_of k) Passed (inside_ruled n k) tt

stored_ruled : (n : ℕ) (c : Class) (path : List (List ℕ)) (b : Bool) → IsRuledClass n c → IsRuled n (stored_at c path b)
unfolding IsRuledClass
stored_ruled n (Protected i) path b h = h
stored_ruled n Above path b h = either n b (Document path) Passed tt tt
stored_ruled n Below path b h = tt
stored_ruled n Clear path b h = tt

tested_ruled : (n : ℕ) (c : Class) (b : Bool) → IsRuledClass n c → IsRuled n (tested_at c b)
unfolding IsRuledClass
tested_ruled n (Protected i) b h = either n b (Test (Field i)) (Compare i) h h
tested_ruled n Above b h = either n b (Test Prefix) Bare tt tt
tested_ruled n Below b h = tt
tested_ruled n Clear b h = tt

compared_ruled : (n : ℕ) (x : Subject) → IsRuledSubject n x → IsRuled n (compared_with x)
compared_ruled n (Field i) h = h
compared_ruled n Prefix h = tt

class_by_ruled : (rows : List Row) (path : List (List ℕ)) (c : Class) → class rows path ≡ c
    → IsRuledClass (length rows) c
unfolding IsRuledClass
class_by_ruled rows path (Protected i) e = protected_inside rows path i e
class_by_ruled rows path _ e = tt

class_ruled : (rows : List Row) (path : List (List ℕ)) → IsRuledClass (length rows) (class rows path)
class_ruled rows path = class_by_ruled rows path (class rows path) refl

dotted_ruled : (rows : List Row) (name : List ℕ) → IsRuledClass (length rows) (dotted rows name)
unfolding IsRuledClass
dotted_ruled rows name =
    elim (positional rows (split name)) as (λ b. IsRuledClass (length rows) (cond b Clear (class rows (split name))))
    [ true ↦ tt | false ↦ class_ruled rows (split name) ]

-- a place whose parent's number is that of a rule has such a number
pub station_ruled : (rows : List Row) (s : Station) (e : Entry) → IsRuled (length rows) s
    → IsRuled (length rows) (station rows s e)
station_ruled rows Outside e h = command_ruled (length rows) e.names
station_ruled rows Insert e h =
    either (length rows) (has_name (codes "documents") e && is_array e) Inserts _ tt
    (other_ruled (length rows) (insert_kind e.name) e)
station_ruled rows Inserts e h = either (length rows) (is_document e) (Document []) Passed tt tt
station_ruled rows Update e h =
    either (length rows) (has_name (codes "updates") e && is_array e) Updates _ tt
    (other_ruled (length rows) (update_kind e.name) e)
station_ruled rows Delete e h =
    either (length rows) (has_name (codes "deletes") e && is_array e) Deletes _ tt
    (other_ruled (length rows) (delete_kind e.name) e)
station_ruled rows Find e h =
    either (length rows) (has_name (codes "filter") e && is_document e) Filter _ tt
    (either (length rows) (has_name (codes "projection") e && is_document e) Projection _ tt
    (other_ruled (length rows) (find_kind e.name) e))
station_ruled rows (Fields l) e h = held_ruled (length rows) (field_kind l e.name) e
station_ruled rows Indexes e h = either (length rows) (is_document e) (Fields lists.Index) Passed tt tt
station_ruled rows Updates e h = either (length rows) (is_document e) UpdateItem Passed tt tt
station_ruled rows Deletes e h = either (length rows) (is_document e) DeleteItem Passed tt tt
station_ruled rows UpdateItem e h =
    either (length rows) (has_name (codes "q") e && is_document e) Filter _ tt
    (either (length rows) (has_name (codes "u") e && is_document e) (update_of e.names) _
    (update_ruled (length rows) e.names) (other_ruled (length rows) (update_item_kind e.name) e))
station_ruled rows DeleteItem e h =
    either (length rows) (has_name (codes "q") e && is_document e) Filter _ tt
    (other_ruled (length rows) (delete_item_kind e.name) e)
station_ruled rows (Document path) e h =
    stored_ruled (length rows) (class rows (path ++ e.name ∷ [])) (path ++ e.name ∷ []) (is_document e)
    (class_ruled rows (path ++ e.name ∷ []))
station_ruled rows Filter e h =
    either (length rows) (is_logical e.name) _ _ (either (length rows) (is_array e) Cases Passed tt tt)
    (either (length rows) (is_dollar e.name) Passed _ tt
    (tested_ruled (length rows) (dotted rows e.name) (is_operators e) (dotted_ruled rows e.name)))
station_ruled rows Cases e h = either (length rows) (is_document e) Filter Passed tt tt
station_ruled rows (Test x) e h =
    either (length rows) (is_equality e.name) (compared_with x) _ (compared_ruled (length rows) x h)
    (either (length rows) (is_membership e.name) _ _
    (either (length rows) (is_array e && not (is_random_field rows x)) (Elements x) Passed h tt)
    (either (length rows) (has_name (codes "$not") e && is_operators e) (Test x) Passed h tt))
station_ruled rows (Elements x) e h = compared_ruled (length rows) x h
station_ruled rows Operators e h =
    either (length rows) (is_set e.name && is_document e) Sets _ tt
    (either (length rows) (is_dollar e.name && is_document e) (Argument (operator_of e.name)) Passed tt tt)
station_ruled rows Sets e h =
    stored_ruled (length rows) (dotted rows e.name) (split e.name) (is_document e) (dotted_ruled rows e.name)
station_ruled rows (Argument name) e h = tt
station_ruled rows Projection e h = either (length rows) (is_document e) Chosen Passed tt tt
station_ruled rows Chosen e h =
    either (length rows) (has_name (codes "$slice") e && is_array e) Bounds Passed tt tt
station_ruled rows Bounds e h = tt
station_ruled rows Keys e h = tt
station_ruled rows IndexKeys e h = tt
station_ruled rows (Own own) e h = tt
station_ruled rows (Store i) e h = tt
station_ruled rows (Compare i) e h = tt
station_ruled rows Bare e h = tt
station_ruled rows Passed e h = tt
station_ruled rows Unknown e h = tt

-- marks behind marks
ruled_append : (n : ℕ) (ms ns : List Mark) → AreRuled n ms → AreRuled n ns → AreRuled n (ms ++ ns)
ruled_append n [] ns p q = q
ruled_append n (m ∷ ms) ns p q = (p.0, ruled_append n ms ns p.1 q)

ruled_mark : (n : ℕ) (s : Station) (v : Visit) → IsRuled n s → AreRuled n (mark_at s v)
ruled_mark n (Store i) v h = (h, tt)
ruled_mark n (Compare i) v h = (h, tt)
ruled_mark n _ v h = tt

mutual
  ruled_in : (rows : List Row) (s : Station) (ts : Targets) (at : ℕ) (t : Tree) → IsRuled (length rows) s
      → AreRuled (length rows) (marks rows (visits_in rows s ts at t))
  ruled_in rows s ts at (leaf tag bytes) h = tt
  ruled_in rows s ts at (node tag is) h = ruled_among rows s (pointed rows s ts at is) (at + 4) [] is h

  ruled_among : (rows : List Row) (s : Station) (ts : Targets) (at : ℕ) (elder : List (List ℕ)) (is : Items)
      → IsRuled (length rows) s
      → AreRuled (length rows) (marks rows (visits rows s ts at elder is))
  ruled_among rows s ts at elder no_items h = tt
  ruled_among rows s ts at elder (item name t is) h =
      let u = station rows s (entry name t) in
      let here : IsRuled (length rows) u = station_ruled rows s (entry name t) h in
      let inside = visits_in rows u ts (at + (2 + length name)) t in
      let behind = visits rows s ts (at + (2 + length name) + length (value_bytes t)) (elder ++ name ∷ []) is in
      ruled_append (length rows) (mark_at u (visit s ts elder at name t)) (marks rows (inside ++ behind))
      (ruled_mark (length rows) u (visit s ts elder at name t) here)
      (subst (AreRuled (length rows)) (sym (marks_append rows inside behind))
      (ruled_append (length rows) (marks rows inside) (marks rows behind)
      (ruled_in rows u ts (at + (2 + length name)) t here)
      (ruled_among rows s ts (at + (2 + length name) + length (value_bytes t)) (elder ++ name ∷ []) is h)))

-- the numbers of the marks of a command are those of rules
pub roles_ruled : (rows : List Row) (at : ℕ) (c : Items) → AreRuled (length rows) (roles rows at c)
roles_ruled rows at c =
    let s = station rows Outside (command_entry c) in
    let here : IsRuled (length rows) s = station_ruled rows Outside (command_entry c) tt in
    ruled_append (length rows) (mark_at s (command_visit c))
    (marks rows (visits rows s (pointed rows s [] at c) (at + 4) [] c))
    (ruled_mark (length rows) s (command_visit c) here)
    (ruled_among rows s (pointed rows s [] at c) (at + 4) [] c here)
