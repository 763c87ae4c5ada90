use Rattle.aes_block.specs.Expansion.{rot_word}
use Rattle.aes_block.proofs.expansion.rot_word.Goals as goal

pub returns : goal.returns
unfolding rot_word
returns c = c.rotate_left.ensures
