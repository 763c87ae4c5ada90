-- The target pass of a library, and its pass for views, read a command and its fields alone, whatever the rules.
use Rattle.std.proofs.Common.{◌≡◌, ◌∙◌, ◌+◌, ◌++◌, ◌∷◌, [], ℕ, Bool, true, false, ◌&&◌, ◌||◌, if◌then◌else◌, List}
use Rattle.std.proofs.Common.{length, Option, Some, None, refl, sym, ap}
use Rattle.std.proofs.lemmas.Bool.{false≢true}
use Rattle.bson_tree.specs.Tree.{Tree, Items, no_items, item}
use Rattle.bson_tree.specs.Spelling.{value_bytes}
use Rattle.encrypt_schema.specs.declared.command.listed.Listed.TheVariants as lists
use Rattle.encrypt_schema.specs.declared.command.reason.Reason.{Reason}
use Rattle.encrypt_schema.specs.declared.command.reason.Reason.TheVariants.{View}
use Rattle.encrypt_schema.specs.Language.Collection.{Collection}
use Rattle.encrypt_schema.specs.Language.Row.{Row}
use Rattle.encrypt_schema.specs.Commands.More.{target_more, target_more_verdict, view_more}
use Rattle.encrypt_schema.specs.Commands.Offences.{has_none, is_library, is_marked, is_view, least, of_field, of_target}
use Rattle.encrypt_schema.specs.Commands.Offences.{of_view, when}
use Rattle.encrypt_schema.specs.Commands.Pointers.{Targets}
use Rattle.encrypt_schema.specs.Commands.Stations.{Entry, Station, Outside, Insert, Update, Delete, Find, Fields}
use Rattle.encrypt_schema.specs.Commands.Stations.{Unknown, command_of}
use Rattle.encrypt_schema.specs.Commands.Visits.{Refusal, command_visits, first_refusal, names_of, or_else, refused_at}
use Rattle.encrypt_schema.proofs.Commands.Fields.{IsShallow, command_alone, fields_refusal, is_inner}

more_inner : (db : List ℕ) (s : Station) (elder : List (List ℕ)) (e : Entry) → is_inner s ≡ true
    → least (if is_library s then of_field db elder e else of_target db s elder e) ≡ None
more_inner db Outside elder e h = absurd (false≢true h)
more_inner db Insert elder e h = absurd (false≢true h)
more_inner db Update elder e h = absurd (false≢true h)
more_inner db Delete elder e h = absurd (false≢true h)
more_inner db Find elder e h = absurd (false≢true h)
more_inner db Unknown elder e h = absurd (false≢true h)
more_inner db (Fields lists.Index) elder e h = refl
more_inner db (Fields _) elder e h = absurd (false≢true h)
more_inner db _ elder e h = refl

pub target_more_shallow : (db : List ℕ) → IsShallow (target_more db)
target_more_shallow db = record { clear = λ v h. more_inner db v.parent v.elder v.entry h }

pub target_more_anyhow : (db : List ℕ) (rows : List Row) (at : ℕ) (c : Items)
    → first_refusal (target_more db) (command_visits rows at c) ≡ target_more_verdict db at c
target_more_anyhow db rows at c =
    command_alone (target_more db) rows at c (target_more_shallow db)
    ∙ sym (command_alone (target_more db) [] at c (target_more_shallow db))

-- its pass for views
view_inner : (info : Option Collection) (s : Station) (elder : List (List ℕ)) (e : Entry) → is_inner s ≡ true
    → least (when (is_library s && has_none elder && is_view info) View ++ of_view info s elder e) ≡ None
view_inner info Insert elder e h = absurd (false≢true h)
view_inner info Update elder e h = absurd (false≢true h)
view_inner info Delete elder e h = absurd (false≢true h)
view_inner info Find elder e h = absurd (false≢true h)
view_inner info (Fields lists.Index) elder e h = refl
view_inner info (Fields _) elder e h = absurd (false≢true h)
view_inner info _ elder e h = refl

view_more_shallow : (info : Option Collection) → IsShallow (view_more info)
view_more_shallow info = record { clear = λ v h. view_inner info v.parent v.elder v.entry h }

-- a view is refused at the first field
not_first : (library marked view : Bool)
    → least (when (library && false && view) View ++ when (marked && false && view) View) ≡ None
not_first true true view = refl
not_first true false view = refl
not_first false true view = refl
not_first false false view = refl

later_views : (info : Option Collection) (s : Station) (ts : Targets) (at : ℕ) (first : List ℕ) (elder : List (List ℕ))
    (is : Items)
    → fields_refusal (view_more info) s ts at (first ∷ elder) is ≡ None
later_views info s ts at first elder no_items = refl
later_views info s ts at first elder (item name t is) =
    let behind = fields_refusal (view_more info) s ts (at + (2 + length name) + length (value_bytes t))
    (first ∷ (elder ++ name ∷ [])) is in
    ap (λ (r : Option Reason). or_else (refused_at (at + (2 + length name)) r) behind)
    (not_first (is_library s) (is_marked s) (is_view info))
    ∙ later_views info s ts (at + (2 + length name) + length (value_bytes t)) first (elder ++ name ∷ []) is

nothing_behind : (r : Option Refusal) → or_else r None ≡ r
nothing_behind None = refl
nothing_behind (Some x) = refl

either_view : (library marked view : Bool)
    → least (when (library && true && view) View ++ when (marked && true && view) View)
    ≡ least (when ((marked || library) && view) View)
either_view true true true = refl
either_view true true false = refl
either_view true false true = refl
either_view true false false = refl
either_view false true true = refl
either_view false true false = refl
either_view false false true = refl
either_view false false false = refl

-- the refusal of a view by a library, of a command with fields
pub view_more_alone : (info : Option Collection) (rows : List Row) (at : ℕ) (name : List ℕ) (t : Tree) (is : Items)
    → first_refusal (view_more info) (command_visits rows at (item name t is))
    ≡ refused_at (at + 4 + (2 + length name)) (least
    (when ((is_marked (command_of (name ∷ names_of is)) || is_library (command_of (name ∷ names_of is)))
    && is_view info) View))
view_more_alone info rows at name t is =
    let s = command_of (name ∷ names_of is) in
    let start = at + 4 + (2 + length name) in
    let own = refused_at start (least (when (is_library s && true && is_view info) View
    ++ when (is_marked s && true && is_view info) View)) in
    command_alone (view_more info) rows at (item name t is) (view_more_shallow info)
    ∙ ap (or_else own) (later_views info s [] (at + 4 + (2 + length name) + length (value_bytes t)) name [] is)
    ∙ nothing_behind own
    ∙ ap (refused_at start) (either_view (is_library s) (is_marked s) (is_view info))
