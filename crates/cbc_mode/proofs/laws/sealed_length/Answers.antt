use Rattle.cbc_mode.proofs.Undone.{length-sealed_pad}
use Rattle.cbc_mode.proofs.laws.sealed_length.Goals as goal

pub returns : goal.returns
returns c = record { len = length-sealed_pad }
