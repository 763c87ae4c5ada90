-- What is answered of a reply is said as it is.
use Rattle.fle_runner.specs.EncryptWith.{wrong_as}
use Rattle.fle_runner.proofs.Pairings.{check_memory, taken_passes, untaken_refused}
use Rattle.fle_runner.proofs.judging.answer_check.Goals as goal

pub returns-in-Ok : goal.returns-in-Ok
returns-in-Ok c = record { checks = λ wrong r says. taken_passes wrong r (rw c.in-Ok.is at says) }

pub returns-in-Err-Wrong : goal.returns-in-Err-Wrong
returns-in-Err-Wrong c = record {
  checks = λ wrong r says.
      rw c.number_of_wrong.ensures.number (untaken_refused wrong r c.in-Err-Wrong.wrong c.in-Err-Wrong.place
      (rw (c.in-Err-Wrong.is, c.in-Err-Wrong.field-0-is) at says));
}

pub returns-in-Err-Memory : goal.returns-in-Err-Memory
returns-in-Err-Memory c = record { checks = λ wrong r says. check_memory (wrong_as r wrong) }
