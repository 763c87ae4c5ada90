use Rattle.aes_block.specs.Expansion.{key_words}
use Rattle.aes_block.proofs.expansion.key_words.Goals as goal

pub returns : goal.returns
unfolding key_words
returns c = cc
