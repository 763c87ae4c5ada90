use Rattle.payload6.proofs.PayloadForm.{parted-once}
use Rattle.payload6.proofs.laws.parting.Goals as goal

pub returns : goal.returns
returns c = record { parts = parted-once }
