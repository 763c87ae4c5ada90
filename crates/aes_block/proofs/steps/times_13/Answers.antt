use Rattle.std.proofs.Common.{rules}
use Rattle.aes_block.proofs.Products.{product-13}
use Rattle.aes_block.proofs.steps.times_13.Goals as goal

pub returns : goal.returns
returns c = cc (product-13 c.args.a (search rules))
