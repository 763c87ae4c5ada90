use Rattle.std.proofs.Common.{ap, ◌∙◌, arith, w8}
use Rattle.std.proofs.lemmas.Simd.{swz_l}
use Rattle.aes_block.proofs.WideLanes.{shuffled_twice, wide_places_ok}
use Rattle.aes_block.proofs.wide_lookups.look_up.Goals as goal

pub swizzle : goal.swizzle
swizzle c = wide_places_ok c.args.at c.fits-at.0 c.requires

pub returns : goal.returns
returns c = ap (λ x. swz_l w8 16 x 0 c.args.at) c.side_by_side.ensures
    ∙ shuffled_twice c.args.table c.args.at (omega arith) c.fits-at.0 c.requires
