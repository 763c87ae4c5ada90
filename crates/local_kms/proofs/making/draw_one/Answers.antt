use Rattle.local_kms.proofs.Drawings.{one_made}
use Rattle.local_kms.proofs.making.draw_one.Goals as goal

pub returns-clause-drawn : goal.returns-clause-drawn
returns-clause-drawn g c = one_made _ _ c.block.result c.block.ensures.takes c.block.ensures.cause c.block.ensures.sure
    c.block.ensures.block
