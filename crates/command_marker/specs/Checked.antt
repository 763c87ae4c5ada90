-- MongoDB commands: the second walk through a command of a library, over places of which the rules refuse none
use Rattle.std.specs.Prelude.{◌≡◌, ℕ, true, List, Option, Some, None, Result}
use Rattle.encrypt_schema.specs.declared.command.marks.MarkFault.{MarkFault}
use Rattle.encrypt_schema.specs.declared.command.walking.Next.{Next}
use Rattle.encrypt_schema.specs.declared.command.walking.Next.TheVariants as nexts
use Rattle.encrypt_schema.specs.Language.Row.{Row}
use Rattle.encrypt_schema.specs.Commands.More.{beyond_of}
use Rattle.encrypt_schema.specs.Commands.Offences.{ruled_offence}
use Rattle.encrypt_schema.specs.Commands.Stations.{Entry, Station, is_silent, station}
use Rattle.encrypt_schema.specs.Commands.Visits.{Visit, first_refusal, ruled_of}
use Rattle.command_marker.specs.declared.places.CommandPlace.{CommandPlace}
use Rattle.command_marker.specs.Commands.{Refuses}
use Rattle.command_marker.specs.Places.{CommandStands, command_station}

-- of places of which the rules refuse none this is the first that a library refuses beyond them, or there is none
abbrev pub ChecksPlaces : List Row → List Visit → Result (Unit {0}) MarkFault → Type 0
ChecksPlaces rows vs result =
    first_refusal (ruled_of rows) vs ≡ None → Refuses (first_refusal beyond_of vs) result

-- the place of an element that is looked into
abbrev pub inner_of : Next CommandPlace → Option CommandPlace
inner_of (nexts.Inside place) = Some place
inner_of _ = None

-- an element that the rules don't refuse stands at this place, or isn't looked into
abbrev pub LeadsTo : List Row → Station → List (List ℕ) → Entry → Option CommandPlace → Type 0
LeadsTo rows s elder e (Some place) = (command_station place rows ≡ station rows s e) × CommandStands place rows
LeadsTo rows s elder e None = ruled_offence rows s elder e ≡ None → is_silent (station rows s e) ≡ true
