-- A refusal is what the command comes to.
use Rattle.std.proofs.Common.{sym, subst}
use Rattle.fle_engine.specs.Answers.{AnswerIs}
use Rattle.fle_engine.specs.Rulings.{Ruling}
use Rattle.fle_engine.proofs.Replied.{answered_memory}
use Rattle.fle_engine.proofs.refusing.refuse_fault.Goals as goal

pub returns-in-Refused : goal.returns-in-Refused
returns-in-Refused c = record {
  answers = λ v e says. subst (λ (w : Ruling). AnswerIs w c.args.command.now.tree e e c.refuse.result)
      (sym (rw c.in-Refused.is at says)) (c.refuse.ensures.answers e);
}

pub returns-in-Memory : goal.returns-in-Memory
returns-in-Memory c = record { answers = λ v e says. answered_memory v c.args.command.now.tree e }
