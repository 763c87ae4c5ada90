use Rattle.std.proofs.Common.{length, ◌++◌, length-append, ap, ◌∙◌, arith, w8}
use Rattle.std.proofs.lemmas.Simd.{swz_l}
use Rattle.aes_block.specs.Nibbles.{all_places}
use Rattle.aes_block.proofs.WideLanes.{shuffled_both, wide_places_ok, places_of_two}
use Rattle.aes_block.proofs.wide_lookups.turned.Goals as goal

pub swizzle : goal.swizzle
swizzle c = wide_places_ok c.side_by_side.result
    (ap length c.side_by_side.ensures ∙ length-append c.args.at c.args.at ∙ omega (arith, c.fits-at.0))
    (ap all_places c.side_by_side.ensures ∙ places_of_two c.args.at c.args.at c.requires c.requires)

pub returns : goal.returns
returns c a b la lb e =
    ap (λ z. swz_l w8 16 c.args.x 0 z) c.side_by_side.ensures
    ∙ ap (λ z. swz_l w8 16 z 0 (c.args.at ++ c.args.at)) e
    ∙ shuffled_both a b c.args.at la lb c.fits-at.0 c.requires
