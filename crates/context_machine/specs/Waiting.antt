-- MongoDB Client Side Encryption: a command whose protected values are known, and which waits for their keys
use Rattle.std.specs.Prelude.{◌≡◌, List, Option, Some, None}
use Rattle.bson_codec.specs.Borrowed.{At}
use Rattle.command_marker.specs.Commands.{Command}
use Rattle.encrypt_schema.specs.Commands.Targets.{rows_in}
use Rattle.encrypt_schema.specs.Commands.Visits.{Refusal, content_verdict}
use Rattle.encrypt_schema.specs.Language.Collection.{Collection}
use Rattle.encrypt_schema.specs.declared.command.marks.MarkFault.{MarkFault}
use Rattle.encrypt_schema.specs.declared.command.marks.MarkFault.TheVariants as faults
use Rattle.data_key.specs.declared.key_doc.KeyDoc.{KeyDoc}
use Rattle.context_machine.specs.Kept.{Wants, fed}
use Rattle.context_machine.specs.Needs.{NeedAt, first_needs}
use Rattle.context_machine.specs.Rings.{needs_of}
use Rattle.context_machine.specs.States.{Waits}

-- this is refused; want of memory may come at any time
abbrev pub IsRefusal : Option Refusal → MarkFault → Type 0
IsRefusal refusal (faults.Refused reason at) = refusal ≡ Some (record { reason = reason; at = at })
IsRefusal refusal faults.Memory = Unit {0}

-- a command is marked under the rules of its info; without an info it isn't
abbrev pub IsMarked : Option Collection → At → Option Command → Type 0
IsMarked info command None = info ≡ None
IsMarked info command (Some marked) = marked ≡ record { rows = rows_in info; command = command }

-- the first value of each need of a command
abbrev pub wanted_of : Option Collection → At → List NeedAt
wanted_of info command = first_needs (needs_of (rows_in info) command)

-- what holds of a command that waits: it is marked under the rules of its info, nothing of its contents is refused, and
-- what is wanted are the keys of its values
pub record IsWaiting (info : Option Collection) (command : At) (marked : Option Command) (wanted : Wants) : Type 0 where
  pub marks : IsMarked info command marked
  pub accepted : content_verdict (rows_in info) command.start command.tree ≡ None
  pub needs : wanted.needs ≡ wanted_of info command

-- a key is kept where it meets a need of the command that no kept key meets
abbrev pub fed_key : Waits → KeyDoc → Waits
fed_key w key = record {
  command = w.command;
  info = w.info;
  kept = fed (wanted_of w.info w.command) w.kept key;
}
