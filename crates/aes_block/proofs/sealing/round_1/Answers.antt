use Rattle.aes_block.proofs.RoundLanes.{round_1-is}
use Rattle.aes_block.proofs.sealing.round_1.Goals as goal

pub returns : goal.returns
returns c s k bs bk ex ek = round_1-is s k bs bk ex ek c.substitute.ensures.m c.substitute.ensures.a
