-- The outputs of a run, one by one.
use Rattle.fle_runner.proofs.HeadlineFronts.{seals_stream}
use Rattle.fle_runner.proofs.laws.accepted_commands_are_sealed.Goals as goal

pub returns : goal.returns
returns c = record { sealed = seals_stream }
