-- What is answered of a command by itself is said as it is.
use Rattle.fle_runner.specs.EncryptWith.{refused_as}
use Rattle.fle_runner.proofs.Pairings.{accepted_passes, check_memory, declined_refused}
use Rattle.fle_runner.proofs.judging.opening_check.Goals as goal

pub returns-in-Ok : goal.returns-in-Ok
returns-in-Ok c = record { checks = λ refusal d says. accepted_passes refusal d (rw c.in-Ok.is at says) }

pub returns-in-Err-Refused : goal.returns-in-Err-Refused
returns-in-Err-Refused c = record {
  checks = λ refusal d says.
      rw c.number_of_reason.ensures.number (declined_refused refusal d c.in-Err-Refused.refused
      (rw (c.in-Err-Refused.is, c.in-Err-Refused.field-0-is) at says));
}

pub returns-in-Err-Memory : goal.returns-in-Err-Memory
returns-in-Err-Memory c = record { checks = λ refusal d says. check_memory (refused_as d refusal) }
