use Rattle.context_machine.proofs.ByIds.{command_ids}
use Rattle.context_machine.proofs.laws.id_rules.Goals as goal

pub returns : goal.returns
returns c = record { ids = command_ids }
