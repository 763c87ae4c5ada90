-- What is said of a command is read from its skeleton.
use Rattle.encrypt_schema.specs.Commands.Targets.{info_of, rows_of}
use Rattle.encrypt_schema.proofs.Commands.TwoWorlds.{equal_roles, equal_content_verdicts, equal_infos, equal_verdicts}
use Rattle.encrypt_schema.proofs.Commands.MoreWorlds.{equal_more_verdicts}
use Rattle.encrypt_schema.proofs.Commands.EqualOffences.{equal_shown, equal_offences, equal_starts}
use Rattle.command_marker.proofs.ToldPlaces.{equal_told}
use Rattle.command_marker.proofs.laws.two_worlds.Goals as goal

pub returns : goal.returns
returns c = record {
  roles = equal_roles;
  shown = equal_shown;
  offences = equal_offences;
  starts = equal_starts;
  content = equal_content_verdicts;
  collection = equal_infos;
  verdict = equal_verdicts;
  library = equal_more_verdicts;
  places = λ db collections c d r e h. equal_told db (info_of collections c) (rows_of collections c) c d r e h;
}
