-- Each answer is said as it is.
use Rattle.fle_runner.proofs.Judgements.{made_written, memory_as, refused_as, too_long_as, undrawn_as}
use Rattle.fle_runner.proofs.judging.judgement.Goals as goal

pub returns-in-Made : goal.returns-in-Made
returns-in-Made c = record {
  judged = λ v d before after says. made_written d before after v c.in-Made.output (rw c.in-Made.is at says);
}

pub returns-in-Refused : goal.returns-in-Refused
returns-in-Refused c = record {
  judged = λ v d before after says.
      rw c.number_of_reason.ensures.number (refused_as d before after v c.in-Refused.refused
      (rw c.in-Refused.is at says));
}

pub returns-in-TooLong : goal.returns-in-TooLong
returns-in-TooLong c = record {
  judged = λ v d before after says. too_long_as d before after v (rw c.in-TooLong.is at says);
}

pub returns-in-Undrawn : goal.returns-in-Undrawn
returns-in-Undrawn c = record {
  judged = λ v d before after says. undrawn_as d before after v _ (rw c.in-Undrawn.is at says);
}

pub returns-in-Memory : goal.returns-in-Memory
returns-in-Memory c = record {
  judged = λ v d before after says. memory_as d before after v (rw c.in-Memory.is at says);
}
