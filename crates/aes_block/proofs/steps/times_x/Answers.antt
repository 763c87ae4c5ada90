use Rattle.std.proofs.Common.{rules}
use Rattle.aes_block.proofs.Products.{times_x-doubled}
use Rattle.aes_block.proofs.steps.times_x.Goals as goal

pub returns : goal.returns
returns c = times_x-doubled c.args.a (search rules)
