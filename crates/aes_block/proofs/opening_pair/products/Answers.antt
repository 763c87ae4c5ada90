use Rattle.std.proofs.Common.{map, refl, ap, ◌∙◌}
use Rattle.std.specs.Prelude.{bit_xor}
use Rattle.aes_block.specs.Block.{xor_bytes}
use Rattle.aes_block.specs.declared.tables.TheConstants.{INVERSE, RATIO}
use Rattle.aes_block.specs.declared.open_tables.TheConstants.{FOURTEEN_U, FOURTEEN_V, ELEVEN_U, ELEVEN_V, THIRTEEN_U}
use Rattle.aes_block.specs.declared.open_tables.TheConstants.{THIRTEEN_V, NINE_U, NINE_V}
use Rattle.aes_block.specs.Nibbles.{all_places, entry, half_u, half_v}
use Rattle.aes_block.specs.Sealing.{at_halves}
use Rattle.aes_block.proofs.Lanes.{mapped_places, looked_up, summed}
use Rattle.aes_block.proofs.Sums.{xor_right}
use Rattle.aes_block.proofs.Bytes.{sum_keyed}
use Rattle.aes_block.proofs.opening_pair.products.Goals as goal

pub look_up-requires : goal.look_up-requires
look_up-requires c = ap all_places c.halved.ensures.u ∙ mapped_places (half_u INVERSE RATIO) refl c.args.x c.fits-x.1

pub look_up-requires-2 : goal.look_up-requires-2
look_up-requires-2 c = ap all_places c.halved.ensures.v ∙ mapped_places (half_v INVERSE RATIO) refl c.args.x c.fits-x.1

pub look_up-requires-3 : goal.look_up-requires-3
look_up-requires-3 c = ap all_places c.halved.ensures.u ∙ mapped_places (half_u INVERSE RATIO) refl c.args.x c.fits-x.1

pub look_up-requires-4 : goal.look_up-requires-4
look_up-requires-4 c = ap all_places c.halved.ensures.v ∙ mapped_places (half_v INVERSE RATIO) refl c.args.x c.fits-x.1

pub look_up-requires-5 : goal.look_up-requires-5
look_up-requires-5 c = ap all_places c.halved.ensures.u ∙ mapped_places (half_u INVERSE RATIO) refl c.args.x c.fits-x.1

pub look_up-requires-6 : goal.look_up-requires-6
look_up-requires-6 c = ap all_places c.halved.ensures.v ∙ mapped_places (half_v INVERSE RATIO) refl c.args.x c.fits-x.1

pub look_up-requires-7 : goal.look_up-requires-7
look_up-requires-7 c = ap all_places c.halved.ensures.u ∙ mapped_places (half_u INVERSE RATIO) refl c.args.x c.fits-x.1

pub look_up-requires-8 : goal.look_up-requires-8
look_up-requires-8 c = ap all_places c.halved.ensures.v ∙ mapped_places (half_v INVERSE RATIO) refl c.args.x c.fits-x.1

pub returns-clause-nine : goal.returns-clause-nine
unfolding at_halves
returns-clause-nine c = summed (λ b. entry NINE_U (half_u INVERSE RATIO b))
    (λ b. entry NINE_V (half_v INVERSE RATIO b)) c.args.x
    (looked_up NINE_U (half_u INVERSE RATIO) c.args.x c.look_up.ensures c.halved.ensures.u)
    (looked_up NINE_V (half_v INVERSE RATIO) c.args.x c.look_up-2.ensures c.halved.ensures.v)

pub returns-clause-thirteen : goal.returns-clause-thirteen
unfolding at_halves
returns-clause-thirteen c = summed (λ b. entry THIRTEEN_U (half_u INVERSE RATIO b))
    (λ b. entry THIRTEEN_V (half_v INVERSE RATIO b)) c.args.x
    (looked_up THIRTEEN_U (half_u INVERSE RATIO) c.args.x c.look_up-3.ensures c.halved.ensures.u)
    (looked_up THIRTEEN_V (half_v INVERSE RATIO) c.args.x c.look_up-4.ensures c.halved.ensures.v)

pub returns-clause-eleven : goal.returns-clause-eleven
unfolding at_halves
returns-clause-eleven c = summed (λ b. entry ELEVEN_U (half_u INVERSE RATIO b))
    (λ b. entry ELEVEN_V (half_v INVERSE RATIO b)) c.args.x
    (looked_up ELEVEN_U (half_u INVERSE RATIO) c.args.x c.look_up-5.ensures c.halved.ensures.u)
    (looked_up ELEVEN_V (half_v INVERSE RATIO) c.args.x c.look_up-6.ensures c.halved.ensures.v)

pub returns-clause-fourteen : goal.returns-clause-fourteen
unfolding at_halves
returns-clause-fourteen c = sum_keyed xor_right c.look_up-7.result c.side_by_side.result c.look_up-8.result
    ∙ ap (λ z. xor_bytes z c.side_by_side.result) (summed (λ b. entry FOURTEEN_U (half_u INVERSE RATIO b))
    (λ b. entry FOURTEEN_V (half_v INVERSE RATIO b)) c.args.x
    (looked_up FOURTEEN_U (half_u INVERSE RATIO) c.args.x c.look_up-7.ensures c.halved.ensures.u)
    (looked_up FOURTEEN_V (half_v INVERSE RATIO) c.args.x c.look_up-8.ensures c.halved.ensures.v))
    ∙ ap (xor_bytes (map (λ b. bit_xor (entry FOURTEEN_U (half_u INVERSE RATIO b))
    (entry FOURTEEN_V (half_v INVERSE RATIO b))) c.args.x)) c.side_by_side.ensures
