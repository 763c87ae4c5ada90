-- The marks of a command lie apart, and are the holes of its skeleton.
use Rattle.encrypt_schema.proofs.Commands.Apart.{roles_apart, holes_are_roles}
use Rattle.encrypt_schema.proofs.Commands.ShownPlaces.{no_role_below}
use Rattle.command_marker.proofs.laws.holes.Goals as goal

pub returns : goal.returns
returns c = record { apart = roles_apart; skeleton = holes_are_roles; outermost = no_role_below }
