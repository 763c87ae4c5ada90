-- MongoDB, the command update: for which stations the places of an update stand
use Rattle.std.specs.Prelude.{◌≡◌, false, List, refl}
use Rattle.update_rules.specs.declared.place.UpdatePlace.{UpdatePlace}
use Rattle.update_rules.specs.declared.place.UpdatePlace.TheVariants as places
use Rattle.encrypt_schema.specs.Language.Row.{Row}
use Rattle.encrypt_schema.specs.Views.Cursors.{StandsForPath, path_of}
use Rattle.encrypt_schema.specs.Commands.Stations.{Station, Document, Operators, Sets, Argument, has_role}

-- the station of a place
abbrev pub update_station : UpdatePlace → List Row → Station
update_station (places.Document at) rows = Document (path_of rows at)
update_station places.Operators rows = Operators
update_station places.Sets rows = Sets
update_station (places.Argument operator) rows = Argument operator

-- a cursor in a place stands for its one path under the rules
abbrev pub UpdateStands : UpdatePlace → List Row → Type 0
UpdateStands (places.Document at) rows = StandsForPath rows at
UpdateStands places.Operators rows = Unit {0}
UpdateStands places.Sets rows = Unit {0}
UpdateStands (places.Argument operator) rows = Unit {0}

-- no place of an update is a protected value itself
pub update_unprotected : (place : UpdatePlace) (rows : List Row) → has_role (update_station place rows) ≡ false
update_unprotected (places.Document at) rows = refl
update_unprotected places.Operators rows = refl
update_unprotected places.Sets rows = refl
update_unprotected (places.Argument operator) rows = refl
