use Rattle.std.proofs.Common.{rules}
use Rattle.aes_block.proofs.Products.{product-1, product-2, product-3}
use Rattle.aes_block.proofs.steps.mixed_byte.Goals as goal

pub returns : goal.returns
returns c = cc (
  product-2 c.args.a (search rules),
  product-3 c.args.b (search rules),
  product-1 c.args.c (search rules),
  product-1 c.args.d (search rules),
)
