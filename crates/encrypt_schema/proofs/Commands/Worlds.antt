-- What is shown of a command, its places that aren't below a protected one, is read from its skeleton alone.
use Rattle.std.proofs.Common.{◌≡◌, ℕ, ◌+◌, Bool, true, false, cond, ◌&&◌, codes, List, [], ◌∷◌, ◌++◌, length, map}
use Rattle.std.proofs.Common.{Option, refl, sym, ap, ap₂, ◌∙◌, arith}
use Rattle.std.proofs.lemmas.Bool.{false≢true}
use Rattle.bson_tree.specs.Tree.{Tree, leaf, node, Items, no_items, item}
use Rattle.bson_tree.specs.Spelling.{framed, value_bytes, items_bytes}
use Rattle.encrypt_schema.specs.declared.command.reason.Reason.{Reason}
use Rattle.encrypt_schema.specs.Language.Row.{Row}
use Rattle.encrypt_schema.specs.Commands.ListedFields.{delete_kind, find_kind, insert_kind, update_kind}
use Rattle.encrypt_schema.specs.Commands.Stations.{Entry, Station, Outside, Insert, Update, Delete, Find, Inserts}
use Rattle.encrypt_schema.specs.Commands.Stations.{Updates, Deletes, Filter, Projection, Store, Compare, Passed}
use Rattle.encrypt_schema.specs.Commands.Stations.{is_document, is_array, has_name, station, has_role}
use Rattle.encrypt_schema.specs.Language.Collection.{Collection}
use Rattle.encrypt_schema.specs.Commands.Offences.{is_marked, target_offence, view_offence, ruled_offence, least}
use Rattle.encrypt_schema.specs.Commands.Offences.{first_reason, judged_offence, pointer_offence}
use Rattle.encrypt_schema.specs.Commands.Pointers.{Targets, pointed}
use Rattle.encrypt_schema.proofs.Commands.Pointed.{seen_pointed, pointed_kept}
use Rattle.encrypt_schema.specs.Commands.Visits.{is_payload, entry, command_entry, Visit, visit, command_visit, mark_at}
use Rattle.encrypt_schema.specs.Commands.Visits.{marks, target_of, view_of, ruled_of, content_of, first_refusal}
use Rattle.encrypt_schema.specs.Commands.Visits.{station_of}
use Rattle.encrypt_schema.specs.Commands.Skeletons.{Skeleton, hole, plain, branch, Skeletons, no_more, more}
use Rattle.encrypt_schema.specs.Commands.Skeletons.{skeleton_in, skeletons, skeleton, width_of, widths_of}
use Rattle.encrypt_schema.proofs.Commands.Tables.{without, station_without, reasons_without, command_without_role}
use Rattle.encrypt_schema.proofs.Commands.Tables.{other_plain}
use Rattle.encrypt_schema.proofs.Commands.Widths.{entry_in, names_kept, width_kept, widths_kept, veiled, entry_kept}
use Rattle.encrypt_schema.proofs.Commands.Widths.{station_kept}
use Rattle.bson_tree.proofs.Sizes.{framed_size}

-- the places that aren't below a protected one
abbrev mutual
  pub shown_in : List Row → Station → Targets → ℕ → Tree → List Visit
  shown_in rows s ts at (leaf tag bytes) = []
  shown_in rows s ts at (node tag is) = cond (has_role s) [] (shown rows s (pointed rows s ts at is) (at + 4) [] is)

  pub shown : List Row → Station → Targets → ℕ → List (List ℕ) → Items → List Visit
  shown rows s ts at elder no_items = []
  shown rows s ts at elder (item name t is) =
      visit s ts elder at name t
      ∷ (shown_in rows (station rows s (entry name t)) ts (at + (2 + length name)) t
      ++ shown rows s ts (at + (2 + length name) + length (value_bytes t)) (elder ++ name ∷ []) is)

-- those of a command that begins at `at`
abbrev pub command_shown : List Row → ℕ → Items → List Visit
command_shown rows at c =
    command_visit c ∷ shown rows (station rows Outside (command_entry c))
    (pointed rows (station rows Outside (command_entry c)) [] at c) (at + 4) [] c

-- the same places, read from a skeleton
abbrev pub skeleton_visit : Station → Targets → List (List ℕ) → ℕ → List ℕ → Skeleton → Visit
skeleton_visit s ts elder at name k =
    record {
      parent = s;
      targets = ts;
      elder = elder;
      entry = entry_in name k;
      start = at + (2 + length name);
      width = width_of k;
    }

abbrev mutual
  pub seen_in : List Row → Station → Targets → ℕ → Skeleton → List Visit
  seen_in rows s ts at (hole tag width payload) = []
  seen_in rows s ts at (plain tag bytes) = []
  seen_in rows s ts at (branch tag ks) = seen rows s (seen_pointed rows s ts at ks) (at + 4) [] ks

  pub seen : List Row → Station → Targets → ℕ → List (List ℕ) → Skeletons → List Visit
  seen rows s ts at elder no_more = []
  seen rows s ts at elder (more name k ks) =
      skeleton_visit s ts elder at name k
      ∷ (seen_in rows (station rows s (entry_in name k)) ts (at + (2 + length name)) k
      ++ seen rows s ts (at + (2 + length name) + width_of k) (elder ++ name ∷ []) ks)

-- the same places of a command, read from its skeleton
abbrev pub command_seen : List Row → ℕ → Skeletons → List Visit
command_seen rows at ks =
    record {
      parent = Outside;
      targets = [];
      elder = [];
      entry = entry_in [] (branch 3 ks);
      start = 0;
      width = widths_of ks + 5;
    }
    ∷ seen rows (station rows Outside (entry_in [] (branch 3 ks)))
    (seen_pointed rows (station rows Outside (entry_in [] (branch 3 ks))) [] at ks) (at + 4) [] ks

-- a place behind its veil
abbrev pub veil : List Row → Visit → Visit
veil rows v = record v { entry = veiled (station_of rows v) v.entry }

map_append : (f : Visit → Visit) (xs ys : List Visit) → map f (xs ++ ys) ≡ map f xs ++ map f ys
map_append f [] ys = refl
map_append f (x ∷ xs) ys = ap (λ (zs : List Visit). f x ∷ zs) (map_append f xs ys)

-- a place behind its veil is read from its value's skeleton
pub visit_kept : (rows : List Row) (s : Station) (ts : Targets) (elder : List (List ℕ)) (at : ℕ) (name : List ℕ)
    (t : Tree)
    → veil rows (visit s ts elder at name t)
    ≡ skeleton_visit s ts elder at name (skeleton_in rows (station rows s (entry name t)) t)
visit_kept rows s ts elder at name t =
    let k = skeleton_in rows (station rows s (entry name t)) t in
    let a : veiled (station rows s (entry name t)) (entry name t) ≡ entry_in name k =
    entry_kept rows (station rows s (entry name t)) name t in
    let b : width_of k ≡ length (value_bytes t) = width_kept rows (station rows s (entry name t)) t in
    cc

joined : (f : Visit → Visit) (v w : Visit) (xs ys us vs : List Visit) → f v ≡ w → map f xs ≡ us
    → map f ys ≡ vs → map f (v ∷ (xs ++ ys)) ≡ w ∷ (us ++ vs)
joined f v w xs ys us vs p q r = let m = map_append f xs ys in cc

mutual
  inside_kept : (rows : List Row) (s : Station) (ts : Targets) (at : ℕ) (t : Tree)
      → map (veil rows) (shown_in rows s ts at t) ≡ seen_in rows s ts at (skeleton_in rows s t)
  inside_kept rows s ts at (leaf tag bytes) =
      elim (has_role s) as (λ b. [] ≡ seen_in rows s ts at
      (cond b (hole tag (length bytes) (is_payload tag bytes)) (plain tag bytes))) [ true ↦ refl | false ↦ refl ]
  inside_kept rows s ts at (node tag is) =
      elim (has_role s) as (λ b. map (veil rows) (cond b [] (shown rows s (pointed rows s ts at is) (at + 4) [] is))
      ≡ seen_in rows s ts at (cond b (hole tag (length (framed (items_bytes is))) false)
      (branch tag (skeletons rows s is)))) [
        | true ↦ refl
        | false ↦ shown_kept rows s (pointed rows s ts at is) (at + 4) [] is
            ∙ ap (λ (x : Targets). seen rows s x (at + 4) [] (skeletons rows s is)) (pointed_kept rows s ts at is)
      ]

  shown_kept : (rows : List Row) (s : Station) (ts : Targets) (at : ℕ) (elder : List (List ℕ)) (is : Items)
      → map (veil rows) (shown rows s ts at elder is) ≡ seen rows s ts at elder (skeletons rows s is)
  shown_kept rows s ts at elder no_items = refl
  shown_kept rows s ts at elder (item name t is) =
      let u = station rows s (entry name t) in
      let k = skeleton_in rows u t in
      joined (veil rows) _ _ _ _ _ _
      (visit_kept rows s ts elder at name t)
      (inside_kept rows u ts (at + (2 + length name)) t
      ∙ ap (λ (x : Station). seen_in rows x ts (at + (2 + length name)) k) (station_kept rows s name t))
      (shown_kept rows s ts (at + (2 + length name) + length (value_bytes t)) (elder ++ name ∷ []) is
      ∙ ap (λ (n : ℕ). seen rows s ts (at + (2 + length name) + n) (elder ++ name ∷ []) (skeletons rows s is))
      (sym (width_kept rows u t)))

no_role_cond : (b : Bool) (s u : Station) → has_role s ≡ false → has_role u ≡ false → has_role (cond b s u) ≡ false
no_role_cond true s u p q = p
no_role_cond false s u p q = q

command_veiled : (rows : List Row) (e : Entry) → veiled (station rows Outside e) e ≡ e
command_veiled rows e = ap (λ (b : Bool). cond b (without e) e) (command_without_role rows e)

-- what is shown of a command, behind its veil, is what is seen in its skeleton
pub command_kept : (rows : List Row) (at : ℕ) (c : Items)
    → map (veil rows) (command_shown rows at c) ≡ command_seen rows at (skeleton rows c)
command_kept rows at c =
    let e = command_entry c in
    let u = station rows Outside e in
    let a : e ≡ entry_in [] (branch 3 (skeletons rows u c))
    = ap (λ (ns : List (List ℕ)). record { name = []; tag = 3; names = ns; raw = []; payload = false })
    (sym (names_kept rows u c)) in
    let v = command_veiled rows e in
    let w : widths_of (skeletons rows u c) + 5 ≡ length (framed (items_bytes c)) =
    omega (arith, widths_kept rows u c, framed_size (items_bytes c)) in
    let rest : map (veil rows) (shown rows u (pointed rows u [] at c) (at + 4) [] c)
    ≡ seen rows (station rows Outside (entry_in [] (branch 3 (skeletons rows u c))))
    (seen_pointed rows (station rows Outside (entry_in [] (branch 3 (skeletons rows u c)))) [] at
    (skeletons rows u c)) (at + 4) []
    (skeletons rows u c)
    = shown_kept rows u (pointed rows u [] at c) (at + 4) [] c
    ∙ ap (λ (x : Targets). seen rows u x (at + 4) [] (skeletons rows u c)) (pointed_kept rows u [] at c)
    ∙ ap
    (λ (f : Entry). seen rows (station rows Outside f)
    (seen_pointed rows (station rows Outside f) [] at (skeletons rows u c)) (at + 4) []
    (skeletons rows u c)) a in
    let first : veil rows (command_visit c) ≡ record {
      parent = Outside;
      targets = [];
      elder = [];
      entry = entry_in [] (branch 3 (skeletons rows u c));
      start = 0;
      width = widths_of (skeletons rows u c) + 5;
    }
    = ap (λ (f : Entry). record {
      parent = Outside;
      targets = [];
      elder = [];
      entry = f;
      start = 0;
      width = length (framed (items_bytes c));
    }) (v ∙ a)
    ∙ ap (λ (n : ℕ). record {
      parent = Outside;
      targets = [];
      elder = [];
      entry = entry_in [] (branch 3 (skeletons rows u c));
      start = 0;
      width = n;
    }) (sym w) in
    cc

mark_without : (s : Station) (v : Visit) → mark_at s (record v { entry = without v.entry }) ≡ mark_at s v
mark_without (Store i) v = refl
mark_without (Compare i) v = refl
mark_without _ v = refl

mark_veiled : (rows : List Row) (v : Visit) (b : Bool) → has_role (station_of rows v) ≡ b
    → mark_at (station rows v.parent (cond b (without v.entry) v.entry))
    (record v { entry = cond b (without v.entry) v.entry }) ≡ mark_at (station_of rows v) v
mark_veiled rows v true h =
    ap (λ (s : Station). mark_at s (record v { entry = without v.entry })) (station_without rows v.parent v.entry h)
    ∙ mark_without (station_of rows v) v
mark_veiled rows v false h = refl

-- the marks of places are read behind their veils
pub marks_veiled : (rows : List Row) (vs : List Visit) → marks rows (map (veil rows) vs) ≡ marks rows vs
marks_veiled rows [] = refl
marks_veiled rows (v ∷ vs) =
    let a = mark_veiled rows v (has_role (station_of rows v)) refl in let b = marks_veiled rows vs in cc

-- a pass that is read behind veils
pub record IsVeiled (pass : Visit → Option Reason) (rows : List Row) : Type 0 where
  pub read : (v : Visit) → pass (veil rows v) ≡ pass v

-- no field of a marked command is protected
pub field_without_role : (rows : List Row) (s : Station) (e : Entry) → is_marked s ≡ true
    → has_role (station rows s e) ≡ false
field_without_role rows Insert e h =
    no_role_cond (has_name (codes "documents") e && is_array e) Inserts _ refl (other_plain (insert_kind e.name) e).no
field_without_role rows Update e h =
    no_role_cond (has_name (codes "updates") e && is_array e) Updates _ refl (other_plain (update_kind e.name) e).no
field_without_role rows Delete e h =
    no_role_cond (has_name (codes "deletes") e && is_array e) Deletes _ refl (other_plain (delete_kind e.name) e).no
field_without_role rows Find e h =
    no_role_cond (has_name (codes "filter") e && is_document e) Filter _ refl
    (no_role_cond (has_name (codes "projection") e && is_document e) Projection _ refl
    (other_plain (find_kind e.name) e).no)
field_without_role rows _ e h = absurd (false≢true h)

-- so it has no veil
field_unveiled : (rows : List Row) (s : Station) (e : Entry) → is_marked s ≡ true → veiled (station rows s e) e ≡ e
field_unveiled rows s e h = ap (λ (b : Bool). cond b (without e) e) (field_without_role rows s e h)

target_read : (db : List ℕ) (rows : List Row) (s : Station) (elder : List (List ℕ)) (e : Entry)
    → target_offence db s elder (veiled (station rows s e) e) ≡ target_offence db s elder e
unfolding target_offence
target_read db rows Outside elder e = ap (λ (x : Entry). target_offence db Outside elder x) (command_veiled rows e)
target_read db rows Insert elder e = ap (λ (x : Entry). target_offence db Insert elder x)
    (field_unveiled rows Insert e refl)
target_read db rows Update elder e = ap (λ (x : Entry). target_offence db Update elder x)
    (field_unveiled rows Update e refl)
target_read db rows Delete elder e = ap (λ (x : Entry). target_offence db Delete elder x)
    (field_unveiled rows Delete e refl)
target_read db rows Find elder e = ap (λ (x : Entry). target_offence db Find elder x) (field_unveiled rows Find e refl)
target_read db rows _ elder e = refl

pub target_veiled : (db : List ℕ) (rows : List Row) → IsVeiled (target_of db) rows
target_veiled db rows = record { read = λ v. target_read db rows v.parent v.elder v.entry }

view_read : (info : Option Collection) (s : Station) (elder : List (List ℕ)) (e f : Entry)
    → view_offence info s elder e ≡ view_offence info s elder f
unfolding view_offence
view_read info s elder e f = refl

pub view_veiled : (info : Option Collection) (rows : List Row) → IsVeiled (view_of info) rows
view_veiled info rows = record { read = λ v. view_read info v.parent v.elder _ _ }

ruled_by : (rows : List Row) (v : Visit) (b : Bool) → has_role (station_of rows v) ≡ b
    → judged_offence rows v.targets v.parent v.elder (cond b (without v.entry) v.entry) ≡ ruled_of rows v
unfolding ruled_offence
ruled_by rows v true h =
    ap₂ first_reason (ap least (reasons_without rows v.parent v.elder v.entry h))
    (ap (pointer_offence rows v.targets) (station_without rows v.parent v.entry h))
ruled_by rows v false h = refl

content_read : (rows : List Row) (v : Visit) → content_of rows (veil rows v) ≡ content_of rows v
content_read [] v = refl
content_read (row ∷ rows) v = ruled_by (row ∷ rows) v (has_role (station_of (row ∷ rows) v)) refl

pub content_veiled : (rows : List Row) → IsVeiled (content_of rows) rows
content_veiled rows = record { read = content_read rows }

-- the first refusal is read behind veils
pub first_veiled : (pass : Visit → Option Reason) (rows : List Row) (vs : List Visit) → IsVeiled pass rows
    → first_refusal pass (map (veil rows) vs) ≡ first_refusal pass vs
first_veiled pass rows [] p = refl
first_veiled pass rows (v ∷ vs) p =
    let a = p.read v in let b = first_veiled pass rows vs p in cc
