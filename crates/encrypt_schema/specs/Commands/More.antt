-- MongoDB's manual, Database Commands: what a library refuses of a command beyond the rules for its filters, updates
-- and stored documents, since it sends nothing of a field that isn't listed, and no value where none belongs; and its
-- verdict on any command.
use Rattle.std.specs.Prelude.{ℕ, Bool, true, false, not, ◌&&◌, ◌||◌, List, [], ◌∷◌, ◌++◌, codes, Option, None}
use Rattle.std.specs.Prelude.{if◌then◌else◌}
use Rattle.bson_tree.specs.Tree.{Items}
use Rattle.encrypt_schema.specs.declared.command.listed.FieldKind.{FieldKind}
use Rattle.encrypt_schema.specs.declared.command.listed.FieldKind.TheVariants as kinds
use Rattle.encrypt_schema.specs.declared.command.operators.Operator.TheVariants.{Unset}
use Rattle.encrypt_schema.specs.declared.command.reason.Reason.{Reason}
use Rattle.encrypt_schema.specs.declared.command.reason.Reason.TheVariants.{BadField, FieldNotAllowed, View}
use Rattle.encrypt_schema.specs.Language.Collection.{Collection}
use Rattle.encrypt_schema.specs.Language.Names.{is_among}
use Rattle.encrypt_schema.specs.Language.Row.{Row}
use Rattle.encrypt_schema.specs.Commands.ListedFields.{delete_item_kind, delete_kind, find_kind, insert_kind}
use Rattle.encrypt_schema.specs.Commands.ListedFields.{update_item_kind, update_kind}
use Rattle.encrypt_schema.specs.Commands.Offences.{when, unless, least, is_string, is_empty, has_none, is_view, text_of}
use Rattle.encrypt_schema.specs.Commands.Offences.{is_index_key, is_library, is_own_field, is_said}
use Rattle.encrypt_schema.specs.Commands.Offences.{of_field, of_target, of_view}
use Rattle.encrypt_schema.specs.Commands.Stations.{Entry, Station, Insert, Update, Delete, Find, UpdateItem}
use Rattle.encrypt_schema.specs.Commands.Stations.{DeleteItem, Projection, Chosen, Bounds, Keys, IndexKeys, Own, Filter}
use Rattle.encrypt_schema.specs.Commands.Stations.{Test, Argument, Inserts, Document, Sets, Elements, Store, Compare}
use Rattle.encrypt_schema.specs.Commands.Stations.{Bare, Passed, is_document, is_array, has_name}
use Rattle.encrypt_schema.specs.Commands.Targets.{info_of, rows_of}
use Rattle.encrypt_schema.specs.Commands.Visits.{Visit, Refusal, or_else, first_refusal, content_of, command_visits}
use Rattle.encrypt_schema.specs.Commands.Visits.{content_verdict}

-- the target pass of a library: of its own commands as of marked ones
abbrev pub target_more : List ℕ → Visit → Option Reason
target_more db v =
    least (if is_library v.parent then of_field db v.elder v.entry else of_target db v.parent v.elder v.entry)

-- its pass for views
abbrev pub view_more : Option Collection → Visit → Option Reason
view_more info v =
    least
    (when (is_library v.parent && has_none v.elder && is_view info) View ++ of_view info v.parent v.elder v.entry)

-- a field that is no filter, no update and no stored document: it doesn't hold what one of its kind holds
abbrev pub other_wrong : FieldKind → Entry → List Reason
other_wrong kinds.Word e = when (is_document e || is_array e) FieldNotAllowed
other_wrong kinds.Keys e = unless (is_document e) BadField
other_wrong kinds.Hint e = unless (is_document e || is_string e) FieldNotAllowed
other_wrong (kinds.Own own) e = unless (is_document e) FieldNotAllowed
other_wrong _ e = FieldNotAllowed ∷ []

-- a field beside those that are judged by their own rules: it stands for the second time; else by what it holds
abbrev pub of_other : List (List ℕ) → FieldKind → List (List ℕ) → Entry → List Reason
of_other read kind elder e =
    if is_among e.name read then [] else if is_among e.name elder then BadField ∷ [] else other_wrong kind e

-- the value of `$slice`, and of `$meta`
abbrev pub chosen_wrong : Entry → List Reason
chosen_wrong e =
    if has_name (codes "$slice") e then unless (is_said e.tag || is_array e) FieldNotAllowed
    else unless (has_name (codes "$meta") e && is_string e) FieldNotAllowed

-- what a library refuses beyond the rules of each command, by what the parent is
abbrev pub of_more : Station → List (List ℕ) → Entry → List Reason
of_more Insert elder e = of_other (codes "documents" ∷ []) (insert_kind e.name) elder e
of_more Update elder e = of_other (codes "updates" ∷ []) (update_kind e.name) elder e
of_more Delete elder e = of_other (codes "deletes" ∷ []) (delete_kind e.name) elder e
of_more Find elder e = of_other (codes "filter" ∷ codes "projection" ∷ []) (find_kind e.name) elder e
-- the items of updates and deletes
of_more UpdateItem elder e = of_other (codes "q" ∷ codes "u" ∷ []) (update_item_kind e.name) elder e
of_more DeleteItem elder e = of_other (codes "q" ∷ []) (delete_item_kind e.name) elder e
-- a projection: numbers and bools, `$slice` of these, `$meta`
of_more Projection elder e = unless (is_said e.tag || is_document e) FieldNotAllowed
of_more Chosen elder e = chosen_wrong e
of_more Bounds elder e = unless (is_said e.tag) FieldNotAllowed
-- an order, or a choice of fields; the keys of an index; a document of MongoDB's own names
of_more Keys elder e = unless (is_said e.tag) FieldNotAllowed
of_more IndexKeys elder e = unless (is_index_key e) FieldNotAllowed
of_more (Own own) elder e = unless (is_own_field own e) FieldNotAllowed
-- what holds no value of its field says no other: `$unset`, `$exists`, `$comment`
of_more (Argument Unset) elder e = unless (is_said e.tag || (is_string e && is_empty (text_of e.raw))) FieldNotAllowed
of_more (Test x) elder e = when (has_name (codes "$exists") e && not (is_said e.tag)) FieldNotAllowed
of_more Filter elder e = when (has_name (codes "$comment") e && not (is_string e)) FieldNotAllowed
of_more _ elder e = []

-- what the rules settle, so that a library refuses nothing in it beyond them: stored documents, values that are
-- compared one by one, what isn't looked into
abbrev pub is_settled : Station → Bool
is_settled Inserts = true
is_settled (Document path) = true
is_settled Sets = true
is_settled (Elements x) = true
is_settled (Store i) = true
is_settled (Compare i) = true
is_settled Bare = true
is_settled Passed = true
is_settled _ = false

-- the offence of a place beyond those rules
abbrev pub beyond_of : Visit → Option Reason
beyond_of v = least (of_more v.parent v.elder v.entry)

-- the pass of a library: without rules nothing is refused
abbrev pub more_of : List Row → Visit → Option Reason
more_of [] v = None
more_of (row ∷ rows) v = beyond_of v

-- the verdict of that pass on a command that begins at `at`
abbrev pub beyond_verdict : List Row → ℕ → Items → Option Refusal
beyond_verdict rows at c = first_refusal (more_of rows) (command_visits rows at c)

-- the verdict of a library on the contents of a command: that of the content pass; else that of its own
abbrev pub contents_verdict : List Row → ℕ → Items → Option Refusal
contents_verdict rows at c = or_else (content_verdict rows at c) (beyond_verdict rows at c)

-- the verdict of its target pass on a command: it looks at the command and its fields, whatever the rules are
abbrev pub target_more_verdict : List ℕ → ℕ → Items → Option Refusal
target_more_verdict db at c = first_refusal (target_more db) (command_visits [] at c)

-- the verdict of a library on places: the three passes, with its own commands, and its own behind them
abbrev pub more_verdict_on : List ℕ → Option Collection → List Row → List Visit → Option Refusal
more_verdict_on db info rows vs =
    or_else (first_refusal (target_more db) vs)
    (or_else (first_refusal (view_more info) vs)
    (or_else (first_refusal (content_of rows) vs) (first_refusal (more_of rows) vs)))

-- the verdict of a library on a command that begins at `at`
unfoldable pub more_verdict : List ℕ → List Collection → ℕ → Items → Option Refusal
more_verdict db collections at c =
    more_verdict_on db (info_of collections c) (rows_of collections c) (command_visits (rows_of collections c) at c)
