use Rattle.std.proofs.Common.{refl, ap, ◌∙◌}
use Rattle.aes_block.specs.declared.tables.TheConstants.{INVERSE, RATIO, ONE_U, ONE_V, TWO_U, TWO_V}
use Rattle.aes_block.specs.Block.{xor_bytes}
use Rattle.aes_block.specs.Nibbles.{all_places, entry, half_u, half_v}
use Rattle.aes_block.specs.Sealing.{at_halves}
use Rattle.aes_block.proofs.Lanes.{mapped_places, looked_up, summed}
use Rattle.aes_block.proofs.Sums.{xor_right}
use Rattle.aes_block.proofs.Bytes.{sum_keyed}
use Rattle.aes_block.proofs.sealing.substitute.Goals as goal

pub look_up-requires : goal.look_up-requires
look_up-requires c = ap all_places c.halved.ensures.u ∙ mapped_places (half_u INVERSE RATIO) refl c.args.x c.fits-x.1

pub look_up-requires-2 : goal.look_up-requires-2
look_up-requires-2 c = ap all_places c.halved.ensures.v ∙ mapped_places (half_v INVERSE RATIO) refl c.args.x c.fits-x.1

pub look_up-requires-3 : goal.look_up-requires-3
look_up-requires-3 c = ap all_places c.halved.ensures.u ∙ mapped_places (half_u INVERSE RATIO) refl c.args.x c.fits-x.1

pub look_up-requires-4 : goal.look_up-requires-4
look_up-requires-4 c = ap all_places c.halved.ensures.v ∙ mapped_places (half_v INVERSE RATIO) refl c.args.x c.fits-x.1

pub returns-clause-a : goal.returns-clause-a
unfolding at_halves
returns-clause-a c = sum_keyed xor_right c.look_up.result c.args.key c.look_up-2.result
    ∙ ap (λ z. xor_bytes z c.args.key) (summed (λ b. entry ONE_U (half_u INVERSE RATIO b))
    (λ b. entry ONE_V (half_v INVERSE RATIO b)) c.args.x
    (looked_up ONE_U (half_u INVERSE RATIO) c.args.x c.look_up.ensures c.halved.ensures.u)
    (looked_up ONE_V (half_v INVERSE RATIO) c.args.x c.look_up-2.ensures c.halved.ensures.v))

pub returns-clause-m : goal.returns-clause-m
unfolding at_halves
returns-clause-m c = summed (λ b. entry TWO_U (half_u INVERSE RATIO b))
    (λ b. entry TWO_V (half_v INVERSE RATIO b)) c.args.x
    (looked_up TWO_U (half_u INVERSE RATIO) c.args.x c.look_up-3.ensures c.halved.ensures.u)
    (looked_up TWO_V (half_v INVERSE RATIO) c.args.x c.look_up-4.ensures c.halved.ensures.v)
