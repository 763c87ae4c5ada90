use Rattle.context_machine.proofs.Kept.{ids_answer, kept_answer}
use Rattle.context_machine.proofs.laws.kept_answer.Goals as goal

pub returns : goal.returns
returns c = record { answer = kept_answer; ids = ids_answer }
