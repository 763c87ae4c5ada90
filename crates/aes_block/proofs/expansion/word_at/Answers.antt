use Rattle.std.proofs.Common.{ap}
use Rattle.std.specs.Prelude.{bit_xor}
use Rattle.aes_block.specs.Expansion.{word_at}
use Rattle.aes_block.proofs.expansion.word_at.Goals as goal

pub returns : goal.returns
unfolding word_at
returns c = ap (bit_xor _) c.added_word.ensures
