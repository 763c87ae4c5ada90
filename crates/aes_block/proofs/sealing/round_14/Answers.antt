use Rattle.std.proofs.Common.{refl, ap, ◌∙◌}
use Rattle.aes_block.specs.declared.tables.TheConstants.{INVERSE, RATIO, LAST_U, LAST_V}
use Rattle.aes_block.specs.Block.{xor_bytes}
use Rattle.aes_block.specs.Nibbles.{all_places, entry, half_u, half_v}
use Rattle.aes_block.specs.Sealing.{at_halves}
use Rattle.aes_block.proofs.Lanes.{mapped_places, looked_up, summed}
use Rattle.aes_block.proofs.Sums.{xor_right}
use Rattle.aes_block.proofs.Bytes.{sum_keyed, ended}
use Rattle.aes_block.proofs.sealing.round_14.Goals as goal

pub look_up-requires : goal.look_up-requires
look_up-requires c = ap all_places c.halved.ensures.u ∙ mapped_places (half_u INVERSE RATIO) refl c.args.x c.fits-x.1

pub look_up-requires-2 : goal.look_up-requires-2
look_up-requires-2 c = ap all_places c.halved.ensures.v ∙ mapped_places (half_v INVERSE RATIO) refl c.args.x c.fits-x.1

pub returns : goal.returns
unfolding at_halves
returns c s k bs bk ex ek = ended s k bs bk ex ek
    (sum_keyed xor_right c.look_up.result c.args.key c.look_up-2.result
    ∙ ap (λ z. xor_bytes z c.args.key) (summed (λ b. entry LAST_U (half_u INVERSE RATIO b))
    (λ b. entry LAST_V (half_v INVERSE RATIO b)) c.args.x
    (looked_up LAST_U (half_u INVERSE RATIO) c.args.x c.look_up.ensures c.halved.ensures.u)
    (looked_up LAST_V (half_v INVERSE RATIO) c.args.x c.look_up-2.ensures c.halved.ensures.v)))
