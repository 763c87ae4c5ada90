use Rattle.fle_demo.proofs.Verdicts.{keyed, one_block}
use Rattle.fle_demo.proofs.laws.commands_are_keyed.Goals as goal

pub returns : goal.returns
returns c = record { one_block = one_block; keyed = keyed }
