use Rattle.std.proofs.Common.{arith}
use Rattle.aes_block.proofs.Lanes.{places_ok, shuffled}
use Rattle.aes_block.proofs.lookups.turned.Goals as goal

pub swizzle : goal.swizzle
swizzle c = places_ok c.args.at c.fits-at.0 c.requires

pub returns : goal.returns
returns c = shuffled c.args.x c.args.at 0 (omega (arith, c.fits-at.0))
