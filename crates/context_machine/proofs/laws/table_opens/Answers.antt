use Rattle.context_machine.proofs.Alike.{table_opens}
use Rattle.context_machine.proofs.laws.table_opens.Goals as goal

pub returns : goal.returns
returns c = record { opens = λ keys d table. table_opens keys table d }
