-- MongoDB filters: the stations for which the places of a filter stand.
use Rattle.std.specs.Prelude.{◌≡◌, false, List, refl}
use Rattle.encrypt_schema.specs.Language.Row.{Row}
use Rattle.encrypt_schema.specs.Commands.Stations.{Station, Filter, Cases, Test, Elements, has_role}
use Rattle.filter_rules.specs.declared.places.FilterPlace.{FilterPlace}
use Rattle.filter_rules.specs.declared.places.FilterPlace.TheVariants as places

-- whatever the rules are
abbrev pub station_by : FilterPlace → List Row → Station
station_by places.Filter rows = Filter
station_by places.Cases rows = Cases
station_by (places.Test subject) rows = Test subject
station_by (places.Elements subject) rows = Elements subject

-- no place of a filter is a protected value itself
pub unprotected : (place : FilterPlace) (rows : List Row) → has_role (station_by place rows) ≡ false
unprotected places.Filter rows = refl
unprotected places.Cases rows = refl
unprotected (places.Test subject) rows = refl
unprotected (places.Elements subject) rows = refl
