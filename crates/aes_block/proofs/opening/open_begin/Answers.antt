use Rattle.aes_block.proofs.Bytes.{lanes_block}
use Rattle.aes_block.proofs.OpenLanes.{open_begun}
use Rattle.aes_block.proofs.opening.open_begin.Goals as goal

pub returns-clause-bytes : goal.returns-clause-bytes
returns-clause-bytes c = lanes_block c.args.block c.fits-block.0 c.fits-block.1

pub returns-clause-sum : goal.returns-clause-sum
returns-clause-sum c k bk ek = open_begun c.args.block k
    (lanes_block c.args.block c.fits-block.0 c.fits-block.1) bk c.by_nibbles.ensures ek
