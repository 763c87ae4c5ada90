-- The files lead on to the judging of each command.
use Rattle.fle_runner.proofs.HeadlineFiles.{encrypts, task_is}
use Rattle.fle_runner.proofs.laws.encrypt_seals_the_input.Goals as goal

pub returns : goal.returns
returns c = record { task = task_is; sealed = encrypts }
