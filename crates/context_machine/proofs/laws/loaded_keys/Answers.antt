use Rattle.context_machine.proofs.Vaults.{distinct_ids, loaded_distinct}
use Rattle.context_machine.proofs.laws.loaded_keys.Goals as goal

pub returns : goal.returns
returns c = record { distinct = loaded_distinct; ids = distinct_ids }
