use Rattle.aes_block.proofs.OpenLanes.{open_sum-is}
use Rattle.aes_block.proofs.lookups.in_open_basis.Goals as goal

pub returns : goal.returns
returns c = open_sum-is c.args.k c.fits-k.0 c.fits-k.1 c.by_nibbles.ensures
