use Rattle.context_machine.proofs.Kept.{fed_next, ids_agree}
use Rattle.context_machine.proofs.Vaults.{distinct_agree}
use Rattle.context_machine.proofs.laws.asked_answer.Goals as goal

pub returns : goal.returns
returns c = record { next = fed_next; ids = ids_agree; distinct = distinct_agree }
