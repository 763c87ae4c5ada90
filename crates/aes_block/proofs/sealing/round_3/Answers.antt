use Rattle.aes_block.proofs.RoundLanes.{round_3-is}
use Rattle.aes_block.proofs.sealing.round_3.Goals as goal

pub returns : goal.returns
returns c s k bs bk ex ek = round_3-is s k bs bk ex ek c.substitute.ensures.m c.substitute.ensures.a
