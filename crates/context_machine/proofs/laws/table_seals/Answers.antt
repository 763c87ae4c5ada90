use Rattle.context_machine.proofs.Alike.{table_seals}
use Rattle.context_machine.proofs.laws.table_seals.Goals as goal

pub returns : goal.returns
returns c = record { seals = λ keys ss table. table_seals keys table ss }
