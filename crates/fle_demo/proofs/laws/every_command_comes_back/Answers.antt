use Rattle.fle_demo.proofs.ComesBack.{every}
use Rattle.fle_demo.proofs.laws.every_command_comes_back.Goals as goal

pub returns : goal.returns
returns c = record { equal = every }
