use Rattle.aes_block.proofs.Bytes.{lanes_block}
use Rattle.aes_block.proofs.OpenLanes.{unmixed_is}
use Rattle.aes_block.proofs.opening_keys.unmixed.Goals as goal

pub returns : goal.returns
returns c = unmixed_is c.args.k (lanes_block c.args.k c.fits-k.0 c.fits-k.1) c.by_nibbles-a.ensures c.by_nibbles.ensures
    c.by_nibbles-2.ensures c.by_nibbles-3.ensures
