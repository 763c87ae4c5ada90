use Rattle.std.specs.Prelude.{bit_xor}
use Rattle.std.proofs.lemmas.Simd.{zip2_splat}
use Rattle.aes_block.proofs.sealing_keys.with_63.Goals as goal

pub returns : goal.returns
returns c = zip2_splat bit_xor c.args.x 16 0x63 c.fits-x.0
