-- MongoDB commands: what the places of commands stand for, and what the judge of an element answers
use Rattle.std.specs.Prelude.{◌≡◌, ℕ, Bool, false, List, [], ◌∷◌, codes, Option, Some, None, Result, Ok, Err, ⊤, refl}
use Rattle.std.specs.Prelude.{if◌then◌else◌}
use Rattle.encrypt_schema.specs.declared.command.reason.Reason.{Reason}
use Rattle.encrypt_schema.specs.declared.command.reason.Reason.TheVariants.{BadField, FieldNotAllowed}
use Rattle.encrypt_schema.specs.Language.Row.{Row}
use Rattle.encrypt_schema.specs.Commands.Offences.{ruled_offence}
use Rattle.encrypt_schema.specs.Commands.Stations.{Entry, Station, Insert, Update, Delete, Find, Inserts, Updates}
use Rattle.encrypt_schema.specs.Commands.Stations.{Deletes, UpdateItem, DeleteItem, Projection, station, has_role}
use Rattle.encrypt_schema.specs.Commands.Stations.{Fields, Keys, IndexKeys, Indexes, Own, Chosen, Bounds, held_at}
use Rattle.encrypt_schema.specs.Commands.Stations.{other_at}
use Rattle.encrypt_schema.specs.Commands.ListedFields.{delete_item_kind, delete_kind, find_kind, insert_kind}
use Rattle.encrypt_schema.specs.Commands.ListedFields.{update_item_kind, update_kind}
use Rattle.encrypt_schema.specs.Commands.Offences.{least, held_wrong}
use Rattle.encrypt_schema.specs.declared.command.listed.FieldKind.{FieldKind}
use Rattle.encrypt_schema.specs.Views.Walking.{station_next, StandsNext}
use Rattle.encrypt_schema.specs.declared.command.walking.Next.{Next}
use Rattle.encrypt_schema.specs.declared.command.walking.Next.TheVariants as nexts
use Rattle.filter_rules.specs.Places as filters
use Rattle.update_rules.specs.UpdatePlaces.{UpdateStands, update_station, update_unprotected}
use Rattle.command_marker.specs.declared.other_kinds.Holder.{Holder}
use Rattle.command_marker.specs.declared.other_kinds.Holder.TheVariants as holders
use Rattle.command_marker.specs.declared.places.CommandName.{CommandName}
use Rattle.command_marker.specs.declared.places.CommandName.TheVariants as names
use Rattle.command_marker.specs.declared.places.CommandPlace.{CommandPlace}
use Rattle.command_marker.specs.declared.places.CommandPlace.TheVariants as places

-- the station of a command
abbrev pub name_station : CommandName → Station
name_station names.Insert = Insert
name_station names.Update = Update
name_station names.Delete = Delete
name_station names.Find = Find

-- the station for which a place of a command stands, under these rules
abbrev pub command_station : CommandPlace → List Row → Station
command_station (places.Command name) rows = name_station name
command_station places.Inserts rows = Inserts
command_station places.Updates rows = Updates
command_station places.Deletes rows = Deletes
command_station places.UpdateItem rows = UpdateItem
command_station places.DeleteItem rows = DeleteItem
command_station places.Projection rows = Projection
command_station places.Chosen rows = Chosen
command_station places.Bounds rows = Bounds
command_station (places.Fields listed) rows = Fields listed
command_station places.Keys rows = Keys
command_station places.IndexKeys rows = IndexKeys
command_station places.Indexes rows = Indexes
command_station (places.Own own) rows = Own own
command_station (places.Filter at) rows = filters.station_by at rows
command_station (places.Update at) rows = update_station at rows

-- it is a place under these rules: its cursor is one of them
abbrev pub CommandStands : CommandPlace → List Row → Type 0
CommandStands (places.Update at) rows = UpdateStands at rows
CommandStands _ rows = ⊤

-- no place of a command is a protected value itself
pub command_unprotected : (place : CommandPlace) (rows : List Row) → has_role (command_station place rows) ≡ false
command_unprotected (places.Command names.Insert) rows = refl
command_unprotected (places.Command names.Update) rows = refl
command_unprotected (places.Command names.Delete) rows = refl
command_unprotected (places.Command names.Find) rows = refl
command_unprotected places.Inserts rows = refl
command_unprotected places.Updates rows = refl
command_unprotected places.Deletes rows = refl
command_unprotected places.UpdateItem rows = refl
command_unprotected places.DeleteItem rows = refl
command_unprotected places.Projection rows = refl
command_unprotected places.Chosen rows = refl
command_unprotected places.Bounds rows = refl
command_unprotected (places.Fields listed) rows = refl
command_unprotected places.Keys rows = refl
command_unprotected places.IndexKeys rows = refl
command_unprotected places.Indexes rows = refl
command_unprotected (places.Own own) rows = refl
command_unprotected (places.Filter at) rows = filters.unprotected at rows
command_unprotected (places.Update at) rows = update_unprotected at rows

-- an element is this, by its station, and isn't refused; or it is refused for the reason
abbrev pub Answers : List Row → Station → Option Reason → Result (Next CommandPlace) Reason → Type 0
Answers rows s offence (Ok next) =
    (station_next command_station rows next ≡ s) × StandsNext CommandStands rows next × (None ≡ offence)
Answers rows s offence (Err reason) = Some reason ≡ offence

-- an element of a document of this station, behind elder siblings of these names, is judged right
abbrev pub Judges : List Row → Station → List (List ℕ) → Entry → Result (Next CommandPlace) Reason → Type 0
Judges rows s elder e result = Answers rows (station rows s e) (ruled_offence rows s elder e) result

-- a listed field that holds this is judged right
abbrev pub Holds : List Row → FieldKind → Entry → Result (Next CommandPlace) Reason → Type 0
Holds rows kind e result = Answers rows (held_at kind e) (least (held_wrong rows kind e)) result

-- what a field of this name holds that is no filter, no update and no stored document
abbrev pub holder_kind : Holder → List ℕ → FieldKind
holder_kind holders.Insert name = insert_kind name
holder_kind holders.Update name = update_kind name
holder_kind holders.Delete name = delete_kind name
holder_kind holders.Find name = find_kind name
holder_kind holders.UpdateItem name = update_item_kind name
holder_kind holders.DeleteItem name = delete_item_kind name

-- the names of fields that are judged by their own rules
abbrev pub holder_reads : Holder → List (List ℕ)
holder_reads holders.Insert = codes "documents" ∷ []
holder_reads holders.Update = codes "updates" ∷ []
holder_reads holders.Delete = codes "deletes" ∷ []
holder_reads holders.Find = codes "filter" ∷ codes "projection" ∷ []
holder_reads holders.UpdateItem = codes "q" ∷ codes "u" ∷ []
holder_reads holders.DeleteItem = codes "q" ∷ []

-- such a field is this
abbrev pub IsOther : List Row → FieldKind → Entry → Next CommandPlace → Type 0
IsOther rows kind e next =
    (station_next command_station rows next ≡ other_at kind e) × StandsNext CommandStands rows next

-- a value of the right type, at this place; or why it is refused
abbrev pub inside_if : Bool → CommandPlace → Reason → Result (Next CommandPlace) Reason
inside_if right place reason = if right then Ok (nexts.Inside place) else Err reason

-- a hint: a document, or a string
abbrev pub hint_answer : Bool → Bool → Result (Next CommandPlace) Reason
hint_answer document string =
    if document then Ok (nexts.Inside places.IndexKeys) else if string then Ok nexts.Passed else Err FieldNotAllowed

-- a field that is read, as what it has to be; BadField where it isn't, or stands for the second time
abbrev pub read_as : Bool → CommandPlace → Result (Next CommandPlace) Reason
read_as right place = if right then Ok (nexts.Inside place) else Err BadField

-- why a field that can't be used is refused: also where it stands for the second time
abbrev pub unusable_reason : Bool → Reason
unusable_reason again = if again then BadField else FieldNotAllowed
