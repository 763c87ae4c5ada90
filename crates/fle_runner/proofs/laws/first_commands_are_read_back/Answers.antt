-- Each of the first sealed commands opens to its command.
use Rattle.fle_runner.specs.Decrypt.{decrypt_verdict}
use Rattle.fle_runner.proofs.Backs.{reads_back}
use Rattle.fle_runner.proofs.HeadlineBack.{front_back, front_gains}
use Rattle.fle_runner.proofs.laws.first_commands_are_read_back.Goals as goal

pub returns : goal.returns
returns c = record {
  gains = front_gains;
  run = λ x told status entropy entropy_after out out_after had all s openable few.
      reads_back (decrypt_verdict x.opens) s.whole s.sealed
      (front_back x told status entropy entropy_after out out_after had all s openable) few;
}
