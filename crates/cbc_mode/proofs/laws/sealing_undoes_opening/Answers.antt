use Rattle.cbc_mode.proofs.Undone.{cbc_redone}
use Rattle.cbc_mode.proofs.laws.sealing_undoes_opening.Goals as goal

pub returns : goal.returns
returns c = record { undone = cbc_redone }
