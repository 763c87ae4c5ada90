use Rattle.aes_block.proofs.Bytes.{lanes_block}
use Rattle.aes_block.proofs.OpenPair.{begun_both}
use Rattle.aes_block.proofs.opening_pair.open_begin.Goals as goal

pub returns-clause-first : goal.returns-clause-first
returns-clause-first c = lanes_block c.args.first c.fits-first.0 c.fits-first.1

pub returns-clause-second : goal.returns-clause-second
returns-clause-second c = lanes_block c.args.second c.fits-second.0 c.fits-second.1

pub returns-clause-sums : goal.returns-clause-sums
returns-clause-sums c k bk ek = begun_both c.args.first c.args.second k
    (lanes_block c.args.first c.fits-first.0 c.fits-first.1)
    (lanes_block c.args.second c.fits-second.0 c.fits-second.1) bk c.side_by_side.ensures ek c.by_nibbles.ensures
    c.side_by_side-2.ensures
