-- What the fields of a command come to by themselves, by the commands that a client takes.
use Rattle.std.proofs.Common.{Result, Ok, Err}
use Rattle.command_marker.proofs.Checked.{wide_read}
use Rattle.command_marker.proofs.Targets.{marked_read}
use Rattle.context_machine.specs.Beginning.{BeginsAs, BeginsMore}
use Rattle.context_machine.specs.States.{Started}
use Rattle.context_machine.specs.declared.begun.Begun.{Begun}
use Rattle.context_machine.specs.declared.begun.Begun.TheVariants as begun
use Rattle.encrypt_schema.specs.declared.command.marks.MarkFault.{MarkFault}
use Rattle.encrypt_schema.specs.declared.command.marks.MarkFault.TheVariants as faults
use Rattle.fle_client.specs.CommandSets.{BeginsBy}
use Rattle.fle_client.specs.declared.commands.CommandSet.TheVariants as sets

-- of the four
pub begins_four : (s : Started) (r : Result Begun MarkFault) → BeginsAs s r → BeginsBy sets.Four s r
begins_four s (Ok (begun.Pass command)) told = told
begins_four s (Ok (begun.Ask asks)) told = (told.0, told.1, marked_read s.command.tree told.2)
begins_four s (Err (faults.Refused reason at)) told = told
begins_four s (Err faults.Memory) told = told

-- of a library's
pub begins_more : (s : Started) (r : Result Begun MarkFault) → BeginsMore s r → BeginsBy sets.More s r
begins_more s (Ok (begun.Pass command)) told = told
begins_more s (Ok (begun.Ask asks)) told = (told.0, told.1, wide_read s.command.tree told.2)
begins_more s (Err (faults.Refused reason at)) told = told
begins_more s (Err faults.Memory) told = told
