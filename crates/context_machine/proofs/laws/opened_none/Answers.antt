use Rattle.context_machine.proofs.Keyed.{opened_none}
use Rattle.context_machine.proofs.laws.opened_none.Goals as goal

pub returns : goal.returns
returns c = record { none = λ keys ns table. opened_none keys table ns }
