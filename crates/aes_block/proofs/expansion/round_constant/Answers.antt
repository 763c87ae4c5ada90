use Rattle.aes_block.proofs.Expanding.{round_constant-shifted}
use Rattle.aes_block.proofs.expansion.round_constant.Goals as goal

pub returns : goal.returns
returns c = round_constant-shifted c.args.n c.requires.low c.requires.high
