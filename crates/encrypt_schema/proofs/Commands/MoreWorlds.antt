-- Two commands with equal skeletons have the same verdict of a library.
use Rattle.std.proofs.Common.{◌≡◌, ℕ, Bool, true, false, cond, ◌&&◌, codes, List, [], ◌∷◌, ◌++◌, Option, None, refl, ap}
use Rattle.std.proofs.Common.{◌∙◌, if◌then◌else◌}
use Rattle.std.proofs.lemmas.Bool.{false≢true}
use Rattle.bson_tree.specs.Tree.{Items}
use Rattle.encrypt_schema.specs.Language.Collection.{Collection}
use Rattle.encrypt_schema.specs.Language.Row.{Row}
use Rattle.encrypt_schema.specs.Commands.Stations.{Entry, Station, Outside, Insert, Update, Delete, Find, Fields}
use Rattle.encrypt_schema.specs.Commands.Stations.{UpdateItem, DeleteItem, Projection, Filter, Test, Argument, Passed}
use Rattle.encrypt_schema.specs.Commands.Stations.{Chosen, Bounds, Keys, IndexKeys, Own}
use Rattle.encrypt_schema.specs.Commands.ListedFields.{delete_item_kind, update_item_kind}
use Rattle.encrypt_schema.specs.Commands.Stations.{Store, Compare, Bare, station, has_role, is_silent, has_name}
use Rattle.encrypt_schema.specs.Commands.Stations.{is_document, is_dollar_first}
use Rattle.encrypt_schema.specs.declared.command.reason.Reason.{Reason}
use Rattle.encrypt_schema.specs.declared.command.reason.Reason.TheVariants.{View}
use Rattle.encrypt_schema.specs.Commands.Offences.{least, when, has_none, is_view, of_field, of_target}
use Rattle.encrypt_schema.specs.Commands.Offences.{of_view, is_library}
use Rattle.encrypt_schema.specs.Commands.Targets.{info_of, rows_of, rows_in}
use Rattle.encrypt_schema.specs.Commands.Visits.{Visit, Refusal, or_else, first_refusal, content_of, command_visits}
use Rattle.encrypt_schema.specs.Commands.Skeletons.{skeleton}
use Rattle.encrypt_schema.specs.Commands.More.{beyond_of, of_more, more_of, target_more, view_more}
use Rattle.encrypt_schema.specs.Commands.More.{more_verdict_on, more_verdict}
use Rattle.encrypt_schema.proofs.Commands.Tables.{without, plain_cond, no_role, command_without_role}
use Rattle.encrypt_schema.proofs.Commands.Tables.{listed_plain, other_plain}
use Rattle.encrypt_schema.proofs.Commands.Widths.{veiled}
use Rattle.encrypt_schema.proofs.Commands.Worlds.{IsVeiled, field_without_role}
use Rattle.encrypt_schema.proofs.Commands.Silence.{IsQuiet, content_quiet}
use Rattle.encrypt_schema.proofs.Commands.Worlds.{content_veiled}
use Rattle.encrypt_schema.proofs.Commands.TwoWorlds.{equal_refusals, equal_infos}

-- what has no role has no veil
unveiled : (s : Station) (e : Entry) → has_role s ≡ false → veiled s e ≡ e
unveiled s e h = ap (λ (b : Bool). cond b (without e) e) h

item_plain : (rows : List Row) (e : Entry) → has_role (station rows UpdateItem e) ≡ false
item_plain rows e =
    (plain_cond
    (has_name (codes "q") e && is_document e)
    (no_role refl)
    (plain_cond
    (has_name (codes "u") e && is_document e)
    (plain_cond (is_dollar_first e.names) (no_role refl) (no_role refl))
    (other_plain (update_item_kind e.name) e))).no

delete_item_plain : (rows : List Row) (e : Entry) → has_role (station rows DeleteItem e) ≡ false
delete_item_plain rows e =
    (plain_cond (has_name (codes "q") e && is_document e) (no_role refl) (other_plain (delete_item_kind e.name) e)).no

read_at : (s u : Station) (elder : List (List ℕ)) (e : Entry) → has_role u ≡ false
    → least (of_more s elder (veiled u e)) ≡ least (of_more s elder e)
read_at s u elder e h = ap (λ (x : Entry). least (of_more s elder x)) (unveiled u e h)

-- of these what is read stays behind a veil: a name, a type
test_kept : (b : Bool) (s : Station) (elder : List (List ℕ)) (e : Entry)
    → least (of_more s elder (without e)) ≡ least (of_more s elder e)
    → least (of_more s elder (cond b (without e) e)) ≡ least (of_more s elder e)
test_kept true s elder e h = h
test_kept false s elder e h = refl

more_read : (rows : List Row) (s : Station) (elder : List (List ℕ)) (e : Entry)
    → least (of_more s elder (veiled (station rows s e) e)) ≡ least (of_more s elder e)
more_read rows Insert elder e = read_at Insert _ elder e (field_without_role rows Insert e refl)
more_read rows Update elder e = read_at Update _ elder e (field_without_role rows Update e refl)
more_read rows Delete elder e = read_at Delete _ elder e (field_without_role rows Delete e refl)
more_read rows Find elder e = read_at Find _ elder e (field_without_role rows Find e refl)
more_read rows UpdateItem elder e = read_at UpdateItem _ elder e (item_plain rows e)
more_read rows DeleteItem elder e = read_at DeleteItem _ elder e (delete_item_plain rows e)
more_read rows Projection elder e =
    test_kept (has_role (station rows Projection e)) Projection elder e refl
more_read rows Chosen elder e = test_kept (has_role (station rows Chosen e)) Chosen elder e refl
more_read rows Bounds elder e = refl
more_read rows Keys elder e = refl
more_read rows IndexKeys elder e = refl
more_read rows (Own own) elder e = refl
more_read rows (Argument n) elder e = refl
more_read rows (Test x) elder e = test_kept (has_role (station rows (Test x) e)) (Test x) elder e refl
more_read rows Filter elder e = test_kept (has_role (station rows Filter e)) Filter elder e refl
more_read rows _ elder e = refl

pass_read : (rows table : List Row) (v : Visit)
    → more_of table (record v { entry = veiled (station rows v.parent v.entry) v.entry }) ≡ more_of table v
pass_read rows [] v = refl
pass_read rows (row ∷ others) v = more_read rows v.parent v.elder v.entry

more_veiled : (rows : List Row) → IsVeiled (more_of rows) rows
more_veiled rows = record { read = pass_read rows rows }

silent_more : (s : Station) (elder : List (List ℕ)) (e : Entry) → is_silent s ≡ true
    → least (of_more s elder e) ≡ None
silent_more (Store i) elder e h = refl
silent_more (Compare i) elder e h = refl
silent_more Bare elder e h = refl
silent_more Passed elder e h = refl
silent_more _ elder e h = absurd (false≢true h)

-- a library refuses nothing in what isn't looked into
pub beyond_quiet : IsQuiet beyond_of
beyond_quiet = record { clear = λ v h. silent_more v.parent v.elder v.entry h }

more_clear : (table : List Row) (v : Visit) → is_silent v.parent ≡ true → more_of table v ≡ None
more_clear [] v h = refl
more_clear (row ∷ rows) v h = silent_more v.parent v.elder v.entry h

pub more_quiet : (rows : List Row) → IsQuiet (more_of rows)
more_quiet rows = record { clear = more_clear rows }

-- the target pass
unfoldable by_target : List ℕ → Station → List (List ℕ) → Entry → Option Reason
by_target db s elder e = least (if is_library s then of_field db elder e else of_target db s elder e)

target_read : (db : List ℕ) (rows : List Row) (s : Station) (elder : List (List ℕ)) (e : Entry)
    → by_target db s elder (veiled (station rows s e) e) ≡ by_target db s elder e
unfolding by_target
target_read db rows Outside elder e =
    ap (by_target db Outside elder) (unveiled (station rows Outside e) e (command_without_role rows e))
target_read db rows Insert elder e =
    ap (by_target db Insert elder) (unveiled _ e (field_without_role rows Insert e refl))
target_read db rows Update elder e =
    ap (by_target db Update elder) (unveiled _ e (field_without_role rows Update e refl))
target_read db rows Delete elder e =
    ap (by_target db Delete elder) (unveiled _ e (field_without_role rows Delete e refl))
target_read db rows Find elder e = ap (by_target db Find elder) (unveiled _ e (field_without_role rows Find e refl))
target_read db rows (Fields l) elder e = ap (by_target db (Fields l) elder) (unveiled _ e (listed_plain rows l e))
target_read db rows _ elder e = refl

target_veiled : (db : List ℕ) (rows : List Row) → IsVeiled (target_more db) rows
unfolding by_target
target_veiled db rows = record { read = λ v. target_read db rows v.parent v.elder v.entry }

target_clear : (db : List ℕ) (s : Station) (elder : List (List ℕ)) (e : Entry) → is_silent s ≡ true
    → least (if is_library s then of_field db elder e else of_target db s elder e) ≡ None
target_clear db (Store i) elder e h = refl
target_clear db (Compare i) elder e h = refl
target_clear db Bare elder e h = refl
target_clear db Passed elder e h = refl
target_clear db _ elder e h = absurd (false≢true h)

pub target_quiet : (db : List ℕ) → IsQuiet (target_more db)
target_quiet db = record { clear = λ v h. target_clear db v.parent v.elder v.entry h }

-- the pass for views reads no entry
view_veiled : (info : Option Collection) (rows : List Row) → IsVeiled (view_more info) rows
view_veiled info rows = record { read = λ v. refl }

view_clear : (info : Option Collection) (s : Station) (elder : List (List ℕ)) (e : Entry) → is_silent s ≡ true
    → least (when (is_library s && has_none elder && is_view info) View ++ of_view info s elder e) ≡ None
view_clear info (Store i) elder e h = refl
view_clear info (Compare i) elder e h = refl
view_clear info Bare elder e h = refl
view_clear info Passed elder e h = refl
view_clear info _ elder e h = absurd (false≢true h)

pub view_quiet : (info : Option Collection) → IsQuiet (view_more info)
view_quiet info = record { clear = λ v h. view_clear info v.parent v.elder v.entry h }

-- commands with equal skeletons have the same verdict of a library: it depends on protected values by their types,
-- their lengths and whether they are binaries of subtype 06 alone
pub equal_more_verdicts : (db : List ℕ) (collections : List Collection) (at : ℕ) (c d : Items)
    → skeleton (rows_of collections c) c ≡ skeleton (rows_of collections c) d
    → more_verdict db collections at c ≡ more_verdict db collections at d
unfolding more_verdict
equal_more_verdicts db collections at c d e =
    let rows = rows_of collections c in
    let info = info_of collections c in
    let t = equal_refusals (target_more db) rows at c d (target_quiet db) (target_veiled db rows) e in
    let v = equal_refusals (view_more info) rows at c d (view_quiet info) (view_veiled info rows) e in
    let r = equal_refusals (content_of rows) rows at c d (content_quiet rows) (content_veiled rows) e in
    let m = equal_refusals (more_of rows) rows at c d (more_quiet rows) (more_veiled rows) e in
    ap (λ (q : Option Refusal). or_else q (or_else (first_refusal (view_more info) (command_visits rows at c))
    (or_else (first_refusal (content_of rows) (command_visits rows at c))
    (first_refusal (more_of rows) (command_visits rows at c))))) t
    ∙ ap (λ (q : Option Refusal). or_else (first_refusal (target_more db) (command_visits rows at d))
    (or_else q (or_else (first_refusal (content_of rows) (command_visits rows at c))
    (first_refusal (more_of rows) (command_visits rows at c))))) v
    ∙ ap (λ (q : Option Refusal). or_else (first_refusal (target_more db) (command_visits rows at d))
    (or_else (first_refusal (view_more info) (command_visits rows at d))
    (or_else q (first_refusal (more_of rows) (command_visits rows at c))))) r
    ∙ ap (λ (q : Option Refusal). or_else (first_refusal (target_more db) (command_visits rows at d))
    (or_else (first_refusal (view_more info) (command_visits rows at d))
    (or_else (first_refusal (content_of rows) (command_visits rows at d)) q))) m
    ∙ ap (λ (i : Option Collection). more_verdict_on db i (rows_in i) (command_visits (rows_in i) at d))
    (equal_infos collections rows c d e)
