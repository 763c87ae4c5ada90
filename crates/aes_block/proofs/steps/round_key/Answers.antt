use Rattle.aes_block.specs.Block.{four_words}
use Rattle.aes_block.specs.Steps.{round_key}
use Rattle.aes_block.proofs.steps.round_key.Goals as goal

pub returns : goal.returns
unfolding round_key four_words
returns c = c.bytes_of.ensures
