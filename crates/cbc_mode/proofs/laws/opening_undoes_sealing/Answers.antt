use Rattle.cbc_mode.proofs.Undone.{cbc_undone}
use Rattle.cbc_mode.proofs.laws.opening_undoes_sealing.Goals as goal

pub returns : goal.returns
returns c = record { undone = cbc_undone }
