use Rattle.std.proofs.Common.{◌∙◌}
use Rattle.aes_block.proofs.Bytes.{map_into, lanes_block}
use Rattle.aes_block.proofs.lookups.in_basis.Goals as goal

pub returns-clause-bytes : goal.returns-clause-bytes
returns-clause-bytes c = lanes_block c.args.x c.fits-x.0 c.fits-x.1

pub returns-clause-mapped : goal.returns-clause-mapped
returns-clause-mapped c = c.by_nibbles.ensures ∙ map_into c.args.x c.fits-x.1
