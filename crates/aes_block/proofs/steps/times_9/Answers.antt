use Rattle.std.proofs.Common.{rules}
use Rattle.aes_block.proofs.Products.{product-9}
use Rattle.aes_block.proofs.steps.times_9.Goals as goal

pub returns : goal.returns
returns c = cc (product-9 c.args.a (search rules))
