use Rattle.aes_block.proofs.Products.{product-inverse}
use Rattle.aes_block.proofs.laws.inverse_is_multiplicative.Goals as goal

pub returns : goal.returns
returns c = record { unit = product-inverse }
