use Rattle.std.proofs.Common.{refl, ap, ◌∙◌}
use Rattle.aes_block.specs.Nibbles.{entry, all_places, low, high}
use Rattle.aes_block.proofs.Lanes.{mapped_places, looked_up, summed}
use Rattle.aes_block.proofs.wide_lookups.by_nibbles.Goals as goal

pub look_up-requires : goal.look_up-requires
look_up-requires c = ap all_places c.low.ensures ∙ mapped_places low refl c.args.x c.fits-x.1

pub look_up-requires-2 : goal.look_up-requires-2
look_up-requires-2 c = ap all_places c.high.ensures ∙ mapped_places high refl c.args.x c.fits-x.1

pub returns : goal.returns
returns c =
    let a = looked_up c.args.lows low c.args.x c.look_up.ensures c.low.ensures in
    let b = looked_up c.args.highs high c.args.x c.look_up-2.ensures c.high.ensures in
    summed (λ b. entry c.args.lows (low b)) (λ b. entry c.args.highs (high b)) c.args.x a b
