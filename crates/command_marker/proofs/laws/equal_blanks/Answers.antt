-- The protected places are read from the command without its protected values.
use Rattle.encrypt_schema.proofs.Commands.Sites.{equal_sites, marks_of_sites}
use Rattle.encrypt_schema.proofs.Commands.EqualPlaces.{equal_blanks}
use Rattle.command_marker.proofs.laws.equal_blanks.Goals as goal

pub returns : goal.returns
returns c = record { sites = equal_sites; blanks = equal_blanks; marks = marks_of_sites }
