use Rattle.cbc_mode.proofs.Padded.{pad-injective}
use Rattle.cbc_mode.proofs.laws.padded_determines_plain.Goals as goal

pub returns : goal.returns
returns c = record { same = pad-injective }
