use Rattle.cbc_mode.proofs.Undone.{cbc_determines}
use Rattle.cbc_mode.proofs.laws.sealed_determines_plain.Goals as goal

pub returns : goal.returns
returns c = record { same = cbc_determines }
