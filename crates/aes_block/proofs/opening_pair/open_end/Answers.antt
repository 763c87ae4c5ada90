use Rattle.std.proofs.Common.{map, refl, ap, ◌∙◌}
use Rattle.std.specs.Prelude.{bit_xor}
use Rattle.aes_block.specs.Block.{xor_bytes}
use Rattle.aes_block.specs.declared.tables.TheConstants.{INVERSE, RATIO}
use Rattle.aes_block.specs.declared.open_tables.TheConstants.{OPEN_LAST_U, OPEN_LAST_V}
use Rattle.aes_block.specs.Nibbles.{all_places, entry, half_u, half_v}
use Rattle.aes_block.specs.Sealing.{at_halves}
use Rattle.aes_block.proofs.Lanes.{mapped_places, looked_up, summed}
use Rattle.aes_block.proofs.Sums.{xor_right}
use Rattle.aes_block.proofs.Bytes.{sum_keyed}
use Rattle.aes_block.proofs.OpenPair.{end_both}
use Rattle.aes_block.proofs.opening_pair.open_end.Goals as goal

pub look_up-requires : goal.look_up-requires
look_up-requires c = ap all_places c.halved.ensures.u ∙ mapped_places (half_u INVERSE RATIO) refl c.args.x c.fits-x.1

pub look_up-requires-2 : goal.look_up-requires-2
look_up-requires-2 c = ap all_places c.halved.ensures.v ∙ mapped_places (half_v INVERSE RATIO) refl c.args.x c.fits-x.1

pub turned-requires : goal.turned-requires
turned-requires c = ap all_places c.turn.ensures

pub returns : goal.returns
unfolding at_halves
returns c s t k bs bt bk ex ek = end_both s t k bs bt bk ex (c.key-last.ensures ∙ ek)
    (sum_keyed xor_right c.look_up.result c.side_by_side.result c.look_up-2.result
    ∙ ap (λ z. xor_bytes z c.side_by_side.result) (summed (λ b. entry OPEN_LAST_U (half_u INVERSE RATIO b))
    (λ b. entry OPEN_LAST_V (half_v INVERSE RATIO b)) c.args.x
    (looked_up OPEN_LAST_U (half_u INVERSE RATIO) c.args.x c.look_up.ensures c.halved.ensures.u)
    (looked_up OPEN_LAST_V (half_v INVERSE RATIO) c.args.x c.look_up-2.ensures c.halved.ensures.v))
    ∙ ap (xor_bytes (map (λ b. bit_xor (entry OPEN_LAST_U (half_u INVERSE RATIO b))
    (entry OPEN_LAST_V (half_v INVERSE RATIO b))) c.args.x)) c.side_by_side.ensures)
    c.turn.ensures c.turned.ensures
