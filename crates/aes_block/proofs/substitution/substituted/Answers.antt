use Rattle.aes_block.proofs.Bytes.{substituted_is}
use Rattle.aes_block.proofs.substitution.substituted.Goals as goal

pub returns : goal.returns
returns c = substituted_is c.args.x c.fits-x.1 c.boxed.ensures c.in_basis.ensures.mapped
