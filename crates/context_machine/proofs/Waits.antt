-- Without rules no value of a command needs a key.
use Rattle.std.proofs.Common.{◌≡◌, ◌∙◌, [], List, None, refl, ap, map}
use Rattle.bson_codec.specs.Borrowed.{At}
use Rattle.command_marker.proofs.CommandVisits.{no_rows}
use Rattle.encrypt_schema.specs.declared.command.marks.Mark.{Mark}
use Rattle.encrypt_schema.specs.Commands.Visits.{roles}
use Rattle.doc_rewrite.specs.Sites.{sites_of}
use Rattle.context_machine.specs.Kept.{Wants}
use Rattle.context_machine.specs.Needs.{first_needs}
use Rattle.context_machine.specs.Rings.{need_at, needs_of}
use Rattle.context_machine.specs.Waiting.{IsWaiting}

-- a command without rules has no role
pub no_roles : (command : At) → [] ≡ roles [] command.start command.tree
no_roles command = (no_rows [] command refl).0

pub no_needs : (command : At) → [] ≡ needs_of [] command
no_needs command = ap (λ (ms : List Mark). map need_at (sites_of [] command ms)) (no_roles command)

-- a command of a collection without an info waits for no key
pub unmarked_waits : (command : At) (wanted : Wants) → wanted.needs ≡ [] → IsWaiting None command None wanted
unmarked_waits command wanted none = record {
  marks = refl;
  accepted = (no_rows [] command refl).1;
  needs = none ∙ ap first_needs (no_needs command);
}
