use Rattle.std.proofs.lemmas.Simd.{pick_l_left}
use Rattle.aes_block.specs.declared.tables.TheConstants.{PLACES_1}
use Rattle.aes_block.proofs.sealing_keys.placed_1.Goals as goal

pub returns : goal.returns
returns c = pick_l_left 0 c.args.x c.args.x 16 PLACES_1 c.fits-x.0 tt
