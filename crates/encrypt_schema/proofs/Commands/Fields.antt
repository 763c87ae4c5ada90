-- A pass that looks at a command and its fields alone is read from these, whatever the rules are.
use Rattle.std.proofs.Common.{◌≡◌, ℕ, ◌+◌, Bool, true, false, cond, not, ◌&&◌, codes, List, [], ◌∷◌, ◌++◌, length}
use Rattle.std.proofs.Common.{Option, Some, None, refl, sym, ap, ap₂, ◌∙◌}
use Rattle.std.proofs.lemmas.Bool.{false≢true}
use Rattle.bson_tree.specs.Tree.{Tree, leaf, node, Items, no_items, item}
use Rattle.bson_tree.specs.Spelling.{value_bytes}
use Rattle.encrypt_schema.specs.declared.command.operators.Subject.{Subject}
use Rattle.encrypt_schema.specs.declared.command.operators.Subject.TheVariants.{Field, Prefix}
use Rattle.encrypt_schema.specs.declared.path.class.Class.{Class}
use Rattle.encrypt_schema.specs.declared.path.class.Class.TheVariants.{Protected, Below, Above, Clear}
use Rattle.encrypt_schema.specs.declared.command.reason.Reason.{Reason}
use Rattle.encrypt_schema.specs.declared.command.reason.Reason.TheVariants.{View}
use Rattle.encrypt_schema.specs.Language.Collection.{Collection}
use Rattle.encrypt_schema.specs.Language.Names.{named}
use Rattle.encrypt_schema.specs.Language.Row.{Row}
use Rattle.encrypt_schema.specs.Paths.Classes.{class}
use Rattle.encrypt_schema.specs.Paths.Dotted.{split, is_dollar}
use Rattle.encrypt_schema.specs.declared.command.listed.FieldKind.{FieldKind}
use Rattle.encrypt_schema.specs.declared.command.listed.FieldKind.TheVariants as kinds
use Rattle.encrypt_schema.specs.declared.command.listed.Listed.TheVariants as lists
use Rattle.encrypt_schema.specs.Commands.ListedFields.{delete_item_kind, delete_kind, field_kind, find_kind}
use Rattle.encrypt_schema.specs.Commands.ListedFields.{insert_kind, is_command, update_item_kind, update_kind}
use Rattle.encrypt_schema.specs.Commands.Stations.{Fields, Keys, IndexKeys, Indexes, Own, Chosen, Bounds, held_at}
use Rattle.encrypt_schema.specs.Commands.Stations.{inside_of, other_at}
use Rattle.encrypt_schema.specs.Commands.Stations.{Entry, Station, Outside, Insert, Update, Delete, Find, Unknown}
use Rattle.encrypt_schema.specs.Commands.Stations.{Inserts, Updates, Deletes, UpdateItem, DeleteItem, Filter, Cases}
use Rattle.encrypt_schema.specs.Commands.Stations.{Projection, Test, Elements, Operators, Sets, Argument, operator_of}
use Rattle.encrypt_schema.specs.Commands.Stations.{Document, Compare, Bare, Passed, is_passed, is_document, is_array}
use Rattle.encrypt_schema.specs.Commands.Stations.{is_operators, is_dollar_first, has_name, is_logical, is_equality}
use Rattle.encrypt_schema.specs.Commands.Stations.{is_membership, is_set, is_random_field, dotted, stored_at, tested_at}
use Rattle.encrypt_schema.specs.Commands.Stations.{compared_with, command_of, station}
use Rattle.encrypt_schema.specs.Commands.Offences.{is_marked, is_view, when, least, target_offence, view_offence}
use Rattle.encrypt_schema.specs.Commands.Pointers.{Targets, pointed}
use Rattle.encrypt_schema.specs.Commands.Visits.{names_of, entry, Visit, visit, visits_in, visits, command_visit}
use Rattle.encrypt_schema.specs.Commands.Visits.{command_visits, target_of, view_of, Refusal, refused_at, or_else}
use Rattle.encrypt_schema.specs.Commands.Visits.{first_refusal, target_verdict}
use Rattle.encrypt_schema.proofs.Commands.Silence.{refusal, refusal_append}
use Rattle.encrypt_schema.proofs.Commands.Tables.{library_elim}

-- what is no command, and not around one
abbrev pub is_inner : Station → Bool
is_inner Outside = false
is_inner Insert = false
is_inner Update = false
is_inner Delete = false
is_inner Find = false
is_inner Unknown = false
is_inner (Fields l) = not (is_command l)
is_inner _ = true

-- what is around a command
abbrev pub is_outside : Station → Bool
is_outside Outside = true
is_outside _ = false

inner_cond : (b : Bool) (s u : Station) → is_inner s ≡ true → is_inner u ≡ true → is_inner (cond b s u) ≡ true
inner_cond true s u p q = p
inner_cond false s u p q = q

inner_stored : (c : Class) (path : List (List ℕ)) (document : Bool) → is_inner (stored_at c path document) ≡ true
inner_stored (Protected i) path document = refl
inner_stored Above path document = inner_cond document (Document path) Passed refl refl
inner_stored Below path document = refl
inner_stored Clear path document = refl

inner_tested : (c : Class) (operators : Bool) → is_inner (tested_at c operators) ≡ true
inner_tested (Protected i) operators = inner_cond operators (Test (Field i)) (Compare i) refl refl
inner_tested Above operators = inner_cond operators (Test Prefix) Bare refl refl
inner_tested Below operators = refl
inner_tested Clear operators = refl

inner_compared : (x : Subject) → is_inner (compared_with x) ≡ true
inner_compared (Field i) = refl
inner_compared Prefix = refl

inner_held : (k : FieldKind) (e : Entry) → is_inner (held_at k e) ≡ true
inner_held kinds.Filter e = inner_cond (is_document e) Filter Passed refl refl
inner_held kinds.Update e =
    inner_cond (is_document e) _ Passed (inner_cond (is_dollar_first e.names) Operators (Document []) refl refl) refl
inner_held kinds.Keys e = inner_cond (is_document e) Keys Passed refl refl
inner_held kinds.IndexKeys e = inner_cond (is_document e) IndexKeys Passed refl refl
inner_held kinds.Hint e = inner_cond (is_document e) IndexKeys Passed refl refl
inner_held kinds.Indexes e = inner_cond (is_array e) Indexes Passed refl refl
inner_held (kinds.Own own) e = inner_cond (is_document e) (Own own) Passed refl refl
inner_held kinds.Path e = refl
inner_held kinds.Word e = refl
inner_held kinds.Unlisted e = refl

inner_inside : (k : FieldKind) → is_inner (inside_of k) ≡ true
inner_inside kinds.Keys = refl
inner_inside kinds.IndexKeys = refl
inner_inside kinds.Hint = refl
inner_inside (kinds.Own own) = refl
inner_inside _ = refl

inner_other : (k : FieldKind) (e : Entry) → is_inner (other_at k e) ≡ true
inner_other k e = inner_cond (is_document e) _ Passed (inner_inside k) refl

-- inside a command there is no command
inner_child : (rows : List Row) (s : Station) (e : Entry) → is_outside s ≡ false → is_inner (station rows s e) ≡ true
inner_child rows Outside e h = absurd (false≢true (sym h))
inner_child rows Insert e h =
    inner_cond (has_name (codes "documents") e && is_array e) Inserts _ refl (inner_other (insert_kind e.name) e)
inner_child rows Inserts e h = inner_cond (is_document e) (Document []) Passed refl refl
inner_child rows Update e h =
    inner_cond (has_name (codes "updates") e && is_array e) Updates _ refl (inner_other (update_kind e.name) e)
inner_child rows Delete e h =
    inner_cond (has_name (codes "deletes") e && is_array e) Deletes _ refl (inner_other (delete_kind e.name) e)
inner_child rows Find e h =
    inner_cond (has_name (codes "filter") e && is_document e) Filter _ refl
    (inner_cond (has_name (codes "projection") e && is_document e) Projection _ refl
    (inner_other (find_kind e.name) e))
inner_child rows Projection e h = inner_cond (is_document e) Chosen Passed refl refl
inner_child rows Chosen e h = inner_cond (has_name (codes "$slice") e && is_array e) Bounds Passed refl refl
inner_child rows (Fields l) e h = inner_held (field_kind l e.name) e
inner_child rows Indexes e h = inner_cond (is_document e) (Fields lists.Index) Passed refl refl
inner_child rows Updates e h = inner_cond (is_document e) UpdateItem Passed refl refl
inner_child rows Deletes e h = inner_cond (is_document e) DeleteItem Passed refl refl
inner_child rows UpdateItem e h =
    inner_cond (has_name (codes "q") e && is_document e) Filter _ refl
    (inner_cond (has_name (codes "u") e && is_document e) _ _
    (inner_cond (is_dollar_first e.names) Operators (Document []) refl refl)
    (inner_other (update_item_kind e.name) e))
inner_child rows DeleteItem e h =
    inner_cond (has_name (codes "q") e && is_document e) Filter _ refl (inner_other (delete_item_kind e.name) e)
inner_child rows (Document p) e h = inner_stored (class rows (p ++ e.name ∷ [])) (p ++ e.name ∷ []) (is_document e)
inner_child rows Filter e h =
    inner_cond (is_logical e.name) _ _ (inner_cond (is_array e) Cases Passed refl refl)
    (inner_cond (is_dollar e.name) Passed _ refl (inner_tested (dotted rows e.name) (is_operators e)))
inner_child rows Cases e h = inner_cond (is_document e) Filter Passed refl refl
inner_child rows (Test x) e h =
    inner_cond (is_equality e.name) _ _ (inner_compared x)
    (inner_cond (is_membership e.name) _ _ (inner_cond (is_array e && not (is_random_field rows x))
    (Elements x) Passed refl refl)
    (inner_cond (has_name (codes "$not") e && is_operators e) (Test x) Passed refl refl))
inner_child rows (Elements x) e h = inner_compared x
inner_child rows Operators e h =
    inner_cond (is_set e.name && is_document e) Sets _ refl
    (inner_cond (is_dollar e.name && is_document e) (Argument (operator_of e.name)) Passed refl refl)
inner_child rows Sets e h = inner_stored (dotted rows e.name) (split e.name) (is_document e)
inner_child rows _ e h = refl

not_outside : (s : Station) → is_inner s ≡ true → is_outside s ≡ false
not_outside Outside h = absurd (false≢true h)
not_outside _ h = refl

-- a pass that refuses no place below the fields of a command
pub record IsShallow (pass : Visit → Option Reason) : Type 0 where
  pub clear : (v : Visit) → is_inner v.parent ≡ true → pass v ≡ None

target_inner : (db : List ℕ) (s : Station) (elder : List (List ℕ)) (e : Entry) → is_inner s ≡ true
    → target_offence db s elder e ≡ None
unfolding target_offence
target_inner db Outside elder e h = absurd (false≢true h)
target_inner db Insert elder e h = absurd (false≢true h)
target_inner db Update elder e h = absurd (false≢true h)
target_inner db Delete elder e h = absurd (false≢true h)
target_inner db Find elder e h = absurd (false≢true h)
target_inner db Unknown elder e h = absurd (false≢true h)
target_inner db (Fields lists.Index) elder e h = refl
target_inner db (Fields _) elder e h = absurd (false≢true h)
target_inner db _ elder e h = refl

view_inner : (info : Option Collection) (s : Station) (elder : List (List ℕ)) (e : Entry) → is_inner s ≡ true
    → view_offence info s elder e ≡ None
unfolding view_offence
view_inner info Insert elder e h = absurd (false≢true h)
view_inner info Update elder e h = absurd (false≢true h)
view_inner info Delete elder e h = absurd (false≢true h)
view_inner info Find elder e h = absurd (false≢true h)
view_inner info _ elder e h = refl

-- the target pass and the view are such passes
pub target_shallow : (db : List ℕ) → IsShallow (target_of db)
target_shallow db = record { clear = λ v h. target_inner db v.parent v.elder v.entry h }

pub view_shallow : (info : Option Collection) → IsShallow (view_of info)
view_shallow info = record { clear = λ v h. view_inner info v.parent v.elder v.entry h }

mutual
  nothing_in : (pass : Visit → Option Reason) (rows : List Row) (s : Station) (ts : Targets) (at : ℕ) (t : Tree)
      → IsShallow pass
      → is_inner s ≡ true
      → first_refusal pass (visits_in rows s ts at t) ≡ None
  nothing_in pass rows s ts at (leaf tag bytes) p h = refl
  nothing_in pass rows s ts at (node tag is) p h = nothing_among pass rows s (pointed rows s ts at is) (at + 4) [] is p
      h

  nothing_among : (pass : Visit → Option Reason) (rows : List Row) (s : Station) (ts : Targets) (at : ℕ)
      (elder : List (List ℕ))
      (is : Items) → IsShallow pass → is_inner s ≡ true
      → first_refusal pass (visits rows s ts at elder is) ≡ None
  nothing_among pass rows s ts at elder no_items p h = refl
  nothing_among pass rows s ts at elder (item name t is) p h =
      let u = station rows s (entry name t) in
      let inside = visits_in rows u ts (at + (2 + length name)) t in
      let behind = visits rows s ts (at + (2 + length name) + length (value_bytes t)) (elder ++ name ∷ []) is in
      ap (λ (r : Option Reason). or_else (refused_at (at + (2 + length name)) r)
      (first_refusal pass (inside ++ behind))) (p.clear (visit s ts elder at name t) h)
      ∙ refusal_append pass inside behind
      ∙ ap₂ or_else
      (nothing_in pass rows u ts (at + (2 + length name)) t p (inner_child rows s (entry name t) (not_outside s h)))
      (nothing_among pass rows s ts (at + (2 + length name) + length (value_bytes t)) (elder ++ name ∷ []) is p h)

-- the first refusal in a pass of the fields of a document at this station, without what is inside them
abbrev pub fields_refusal : (Visit → Option Reason) → Station → Targets → ℕ → List (List ℕ) → Items → Option Refusal
fields_refusal pass s ts at elder no_items = None
fields_refusal pass s ts at elder (item name t is) =
    or_else
    (refused_at (at + (2 + length name)) (pass (visit s ts elder at name t)))
    (fields_refusal pass s ts (at + (2 + length name) + length (value_bytes t)) (elder ++ name ∷ []) is)

-- such a pass reads the fields of a command alone
pub fields_alone : (pass : Visit → Option Reason) (rows : List Row) (s : Station) (ts : Targets) (at : ℕ)
    (elder : List (List ℕ))
    (is : Items) → IsShallow pass → is_outside s ≡ false
    → first_refusal pass (visits rows s ts at elder is) ≡ fields_refusal pass s ts at elder is
fields_alone pass rows s ts at elder no_items p h = refl
fields_alone pass rows s ts at elder (item name t is) p h =
    let u = station rows s (entry name t) in
    let inside = visits_in rows u ts (at + (2 + length name)) t in
    let behind = visits rows s ts (at + (2 + length name) + length (value_bytes t)) (elder ++ name ∷ []) is in
    ap (or_else (refusal pass (visit s ts elder at name t)))
    (refusal_append pass inside behind
    ∙ ap₂ or_else
    (nothing_in pass rows u ts (at + (2 + length name)) t p (inner_child rows s (entry name t) h))
    (fields_alone pass rows s ts (at + (2 + length name) + length (value_bytes t)) (elder ++ name ∷ []) is p h))

outside_cond : (b : Bool) (s u : Station) → is_outside s ≡ false → is_outside u ≡ false
    → is_outside (cond b s u) ≡ false
outside_cond true s u p q = p
outside_cond false s u p q = q

command_inside : (names : List (List ℕ)) → is_outside (command_of names) ≡ false
command_inside [] = refl
command_inside (n ∷ ns) =
    outside_cond (named n (codes "insert")) Insert _ refl
    (outside_cond (named n (codes "update")) Update _ refl
    (outside_cond (named n (codes "delete")) Delete _ refl
    (outside_cond (named n (codes "find")) Find _ refl
    (outside_cond (is_passed n) Passed _ refl
    (library_elim (λ s. is_outside s ≡ false) (λ l c. refl) refl n)))))

-- the first refusal of a command in such a pass, by itself and its fields
pub command_alone : (pass : Visit → Option Reason) (rows : List Row) (at : ℕ) (c : Items) → IsShallow pass
    → first_refusal pass (command_visits rows at c)
    ≡ or_else (refused_at 0 (pass (command_visit c)))
    (fields_refusal pass (command_of (names_of c)) (pointed rows (command_of (names_of c)) [] at c) (at + 4) [] c)
command_alone pass rows at c p =
    ap (or_else (refusal pass (command_visit c)))
    (fields_alone pass rows (command_of (names_of c)) (pointed rows (command_of (names_of c)) [] at c) (at + 4) [] c p
    (command_inside (names_of c)))

-- the target pass whatever the rules are
pub target_anyhow : (db : List ℕ) (rows : List Row) (at : ℕ) (c : Items)
    → first_refusal (target_of db) (command_visits rows at c) ≡ target_verdict db at c
target_anyhow db rows at c =
    command_alone (target_of db) rows at c (target_shallow db)
    ∙ sym (command_alone (target_of db) [] at c (target_shallow db))

-- a view is refused at the first field

not_first : (marked view : Bool) → least (when (marked && false && view) View) ≡ None
not_first true view = refl
not_first false view = refl

later_views : (info : Option Collection) (s : Station) (ts : Targets) (at : ℕ) (first : List ℕ) (elder : List (List ℕ))
    (is : Items)
    → fields_refusal (view_of info) s ts at (first ∷ elder) is ≡ None
unfolding view_offence
later_views info s ts at first elder no_items = refl
later_views info s ts at first elder (item name t is) =
    let behind = fields_refusal (view_of info) s ts (at + (2 + length name) + length (value_bytes t))
    (first ∷ (elder ++ name ∷ [])) is in
    ap (λ (r : Option Reason). or_else (refused_at (at + (2 + length name)) r) behind)
    (not_first (is_marked s) (is_view info))
    ∙ later_views info s ts (at + (2 + length name) + length (value_bytes t)) first (elder ++ name ∷ []) is

nothing_behind : (r : Option Refusal) → or_else r None ≡ r
nothing_behind None = refl
nothing_behind (Some x) = refl

-- the refusal of a view, of a command with fields
pub view_alone : (info : Option Collection) (rows : List Row) (at : ℕ) (name : List ℕ) (t : Tree) (is : Items)
    → first_refusal (view_of info) (command_visits rows at (item name t is))
    ≡ refused_at (at + 4 + (2 + length name)) (least
    (when (is_marked (command_of (name ∷ names_of is)) && true && is_view info) View))
unfolding view_offence
view_alone info rows at name t is =
    let s = command_of (name ∷ names_of is) in
    let own = refused_at (at + 4 + (2 + length name)) (least (when (is_marked s && true && is_view info) View)) in
    command_alone (view_of info) rows at (item name t is) (view_shallow info)
    ∙ ap (or_else own) (later_views info s [] (at + 4 + (2 + length name) + length (value_bytes t)) name [] is)
    ∙ nothing_behind own
