use Rattle.std.proofs.Common.{rules}
use Rattle.aes_block.proofs.Products.{product-11}
use Rattle.aes_block.proofs.steps.times_11.Goals as goal

pub returns : goal.returns
returns c = cc (product-11 c.args.a (search rules))
