use Rattle.std.proofs.Common.{refl, ap, ◌∙◌}
use Rattle.aes_block.specs.declared.tables.TheConstants.{INVERSE, RATIO}
use Rattle.aes_block.specs.declared.open_tables.TheConstants.{OPEN_LAST_U, OPEN_LAST_V}
use Rattle.aes_block.specs.Nibbles.{all_places, entry, half_u, half_v}
use Rattle.aes_block.specs.Sealing.{at_halves}
use Rattle.aes_block.proofs.Lanes.{mapped_places, looked_up, summed}
use Rattle.aes_block.proofs.substitution.inv_boxed.Goals as goal

pub look_up-requires : goal.look_up-requires
look_up-requires c = ap all_places c.halved.ensures.u ∙ mapped_places (half_u INVERSE RATIO) refl c.args.x c.fits-x.1

pub look_up-requires-2 : goal.look_up-requires-2
look_up-requires-2 c = ap all_places c.halved.ensures.v ∙ mapped_places (half_v INVERSE RATIO) refl c.args.x c.fits-x.1

pub returns : goal.returns
unfolding at_halves
returns c = summed (λ b. entry OPEN_LAST_U (half_u INVERSE RATIO b))
    (λ b. entry OPEN_LAST_V (half_v INVERSE RATIO b)) c.args.x
    (looked_up OPEN_LAST_U (half_u INVERSE RATIO) c.args.x c.look_up.ensures c.halved.ensures.u)
    (looked_up OPEN_LAST_V (half_v INVERSE RATIO) c.args.x c.look_up-2.ensures c.halved.ensures.v)
