use Rattle.fle_demo.proofs.Keys.{made_key}
use Rattle.fle_demo.proofs.laws.made_key_opens.Goals as goal

pub returns : goal.returns
returns c = record { opens = made_key }
