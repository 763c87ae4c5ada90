use Rattle.std.proofs.Common.{◌++◌, length-append, ◌∙◌, arith}
use Rattle.std.proofs.lemmas.Simd.{pick_l_whole}
use Rattle.aes_block.proofs.wide_lookups.side_by_side.Goals as goal

pub returns : goal.returns
returns c = pick_l_whole 0 (c.args.first ++ c.args.second) 32
    (length-append c.args.first c.args.second ∙ omega (arith, c.fits-first.0, c.fits-second.0))
