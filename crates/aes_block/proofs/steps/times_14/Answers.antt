use Rattle.std.proofs.Common.{rules}
use Rattle.aes_block.proofs.Products.{product-14}
use Rattle.aes_block.proofs.steps.times_14.Goals as goal

pub returns : goal.returns
returns c = cc (product-14 c.args.a (search rules))
