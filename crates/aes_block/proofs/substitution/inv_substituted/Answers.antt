use Rattle.aes_block.proofs.OpenLanes.{inv_substituted_is}
use Rattle.aes_block.proofs.substitution.inv_substituted.Goals as goal

pub returns : goal.returns
returns c = inv_substituted_is c.args.x c.fits-x.1 c.inv_boxed.ensures c.in_open_basis.ensures
