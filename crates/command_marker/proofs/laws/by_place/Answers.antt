-- A place read from its chain is the one that the descent visits, and the marked command has its marking there.
use Rattle.encrypt_schema.specs.Commands.Targets.{info_of, rows_of}
use Rattle.encrypt_schema.proofs.Commands.ByPlace.{by_place, stations_by_place, offences_by_place, roles_by_place}
use Rattle.encrypt_schema.proofs.Commands.ByPlace.{part_by_place, part_stations, part_offences, verdict_by_place}
use Rattle.encrypt_schema.proofs.Commands.Refused.{accepted}
use Rattle.command_marker.proofs.MarkedPlaces.{marked_filled}
use Rattle.command_marker.proofs.ToldPlaces.{told_places, offence_told}
use Rattle.command_marker.proofs.laws.by_place.Goals as goal

pub returns : goal.returns
returns c = record {
  visits = by_place;
  stations = stations_by_place;
  offences = offences_by_place;
  roles = roles_by_place;
  parts = part_by_place;
  part_stations = part_stations;
  part_offences = part_offences;
  marked = marked_filled;
  verdict = λ db collections at c. verdict_by_place db (info_of collections c) (rows_of collections c) at c;
  accepted = λ db collections at c. accepted db (info_of collections c) (rows_of collections c) at c;
  refused = λ db collections c r e. offence_told db (info_of collections c) (rows_of collections c) c r e;
  told = λ db collections c. told_places db (info_of collections c) (rows_of collections c) c;
}
