-- A command that passes is not looked into.
use Rattle.command_marker.proofs.Unmarked.{passing_roles, passing_verdict, passing_reply}
use Rattle.command_marker.proofs.laws.passing.Goals as goal

pub returns : goal.returns
returns c = record { roles = passing_roles; verdict = passing_verdict; reply = passing_reply }
