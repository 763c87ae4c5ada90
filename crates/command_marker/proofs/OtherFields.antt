-- Fields that are no filter, no update and no stored document.
use Rattle.std.proofs.Common.{◌≡◌, ◌∙◌, ◌==◌, ◌&&◌, ◌++◌, Bool, true, false, cond, ℕ, List, [], codes, refl, sym, ap}
use Rattle.bson_tree.specs.Tree.{Tree, tag_of}
use Rattle.encrypt_schema.specs.declared.command.listed.FieldKind.{FieldKind}
use Rattle.encrypt_schema.specs.declared.command.listed.FieldKind.TheVariants as kinds
use Rattle.encrypt_schema.specs.declared.command.walking.Next.{Next}
use Rattle.encrypt_schema.specs.declared.command.walking.Next.TheVariants as nexts
use Rattle.encrypt_schema.specs.Language.Row.{Row}
use Rattle.encrypt_schema.specs.declared.command.reason.Reason.{Reason}
use Rattle.encrypt_schema.specs.Commands.ListedFields.{delete_item_kind, delete_kind, find_kind, insert_kind}
use Rattle.encrypt_schema.specs.Commands.ListedFields.{update_item_kind, update_kind}
use Rattle.encrypt_schema.specs.Commands.Offences.{least, of_role, of_row, ruled_offence}
use Rattle.encrypt_schema.specs.Commands.Stations.{Entry, Station, Passed, inside_of, is_document, other_at, station}
use Rattle.encrypt_schema.specs.Commands.Stations.{Insert, Update, Delete, Find, UpdateItem, DeleteItem, Inserts}
use Rattle.encrypt_schema.specs.Commands.Stations.{Updates, Deletes, Filter, Projection, Operators, Document, has_name}
use Rattle.encrypt_schema.specs.Commands.Stations.{is_array, is_dollar_first}
use Rattle.encrypt_schema.specs.Commands.Visits.{entry}
use Rattle.encrypt_schema.specs.Views.Walking.{StandsNext, station_next}
use Rattle.command_marker.specs.declared.places.CommandPlace.{CommandPlace}
use Rattle.command_marker.specs.Places.{CommandStands, IsOther, command_station}
use Rattle.command_marker.proofs.Held.{no_reasons}

-- a document is looked into by what the field holds
pub other_document : (rows : List Row) (kind : FieldKind) (name : List ℕ) (t : Tree) (next : Next CommandPlace)
    → (tag_of t == 3) ≡ true → station_next command_station rows next ≡ inside_of kind
    → StandsNext CommandStands rows next
    → IsOther rows kind (entry name t) next
other_document rows kind name t next d is stands =
    (is ∙ sym (ap (λ (b : Bool). cond b (inside_of kind) Passed) d), stands)

-- any other value passes
pub other_raw : (rows : List Row) (kind : FieldKind) (name : List ℕ) (t : Tree) → (tag_of t == 3) ≡ false
    → IsOther rows kind (entry name t) nexts.Passed
other_raw rows kind name t d = (sym (ap (λ (b : Bool). cond b (inside_of kind) Passed) d), tt)

inside_role : (rows : List Row) (kind : FieldKind) (e : Entry) → of_role rows (inside_of kind) e ≡ []
inside_role rows kinds.Keys e = refl
inside_role rows kinds.IndexKeys e = refl
inside_role rows kinds.Hint e = refl
inside_role rows (kinds.Own own) e = refl
inside_role rows _ e = refl

-- it has no reasons by what it is itself
pub other_role : (rows : List Row) (kind : FieldKind) (e : Entry) → of_role rows (other_at kind e) e ≡ []
other_role rows kind e =
    no_reasons rows (is_document e) (inside_of kind) Passed e (inside_role rows kind e) refl

-- the offence of a place that has none by what it is itself
pub by_row : (rows : List Row) (s : Station) (elder : List (List ℕ)) (e : Entry) → of_role rows (station rows s e) e ≡ []
    → ruled_offence rows s elder e ≡ least (of_row rows s elder e)
unfolding ruled_offence
by_row rows s elder e h = ap (λ (rs : List Reason). least (rs ++ of_row rows s elder e)) h

pub insert_offence : (rows : List Row) (elder : List (List ℕ)) (e : Entry)
    → ruled_offence rows Insert elder e ≡ least (of_row rows Insert elder e)
insert_offence rows elder e =
    by_row rows Insert elder e
    (no_reasons rows (has_name (codes "documents") e && is_array e) Inserts _ e refl
    (other_role rows (insert_kind e.name) e))

pub update_offence : (rows : List Row) (elder : List (List ℕ)) (e : Entry)
    → ruled_offence rows Update elder e ≡ least (of_row rows Update elder e)
update_offence rows elder e =
    by_row rows Update elder e
    (no_reasons rows (has_name (codes "updates") e && is_array e) Updates _ e refl
    (other_role rows (update_kind e.name) e))

pub delete_offence : (rows : List Row) (elder : List (List ℕ)) (e : Entry)
    → ruled_offence rows Delete elder e ≡ least (of_row rows Delete elder e)
delete_offence rows elder e =
    by_row rows Delete elder e
    (no_reasons rows (has_name (codes "deletes") e && is_array e) Deletes _ e refl
    (other_role rows (delete_kind e.name) e))

pub find_offence : (rows : List Row) (elder : List (List ℕ)) (e : Entry)
    → ruled_offence rows Find elder e ≡ least (of_row rows Find elder e)
find_offence rows elder e =
    by_row rows Find elder e
    (no_reasons rows (has_name (codes "filter") e && is_document e) Filter _ e refl
    (no_reasons rows (has_name (codes "projection") e && is_document e) Projection _ e refl
    (other_role rows (find_kind e.name) e)))

pub update_item_offence : (rows : List Row) (elder : List (List ℕ)) (e : Entry)
    → ruled_offence rows UpdateItem elder e ≡ least (of_row rows UpdateItem elder e)
update_item_offence rows elder e =
    by_row rows UpdateItem elder e
    (no_reasons rows (has_name (codes "q") e && is_document e) Filter _ e refl
    (no_reasons rows (has_name (codes "u") e && is_document e) _ _ e
    (no_reasons rows (is_dollar_first e.names) Operators (Document []) e refl refl)
    (other_role rows (update_item_kind e.name) e)))

pub delete_item_offence : (rows : List Row) (elder : List (List ℕ)) (e : Entry)
    → ruled_offence rows DeleteItem elder e ≡ least (of_row rows DeleteItem elder e)
delete_item_offence rows elder e =
    by_row rows DeleteItem elder e
    (no_reasons rows (has_name (codes "q") e && is_document e) Filter _ e refl
    (other_role rows (delete_item_kind e.name) e))
