use Rattle.fle_demo.proofs.Bytes.{command_size}
use Rattle.fle_demo.proofs.Laid.{command_laid}
use Rattle.fle_demo.proofs.Verdicts.{accepted}
use Rattle.fle_demo.proofs.laws.commands_are_accepted.Goals as goal

pub returns : goal.returns
returns c = record { spelled = command_laid; size = command_size; accepted = accepted }
