-- The files lead on to the judging of pairs.
use Rattle.fle_runner.proofs.HeadlinePairs.{encrypts_pairs, pairs_task}
use Rattle.fle_runner.proofs.laws.encrypt_with_seals_the_input.Goals as goal

pub returns : goal.returns
returns c = record { task = pairs_task; sealed = encrypts_pairs }
