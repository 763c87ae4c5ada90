use Rattle.payload6.proofs.Verdicts.{opens, original_tells}
use Rattle.payload6.proofs.laws.judging.Goals as goal

pub returns : goal.returns
returns c = record { original = original_tells; opens = opens }
