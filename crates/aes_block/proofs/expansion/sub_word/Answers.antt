use Rattle.aes_block.specs.Expansion.{sub_word}
use Rattle.aes_block.proofs.expansion.sub_word.Goals as goal

pub returns : goal.returns
unfolding sub_word
returns c = rw (c.substituted.ensures, c.to_be_bytes.ensures) at c.from_be_bytes.ensures
