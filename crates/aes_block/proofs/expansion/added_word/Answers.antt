use Rattle.std.proofs.Common.{sym, arith}
use Rattle.aes_block.proofs.Expanding.{added_word-turned, added_word-middle, added_word-other}
use Rattle.aes_block.proofs.expansion.added_word.Goals as goal

pub returns-in-0 : goal.returns-in-0
returns-in-0 c = cc (added_word-turned c.args.i c.args.t c.in-0.is)

pub returns-in-4 : goal.returns-in-4
returns-in-4 c = cc (added_word-middle c.args.i c.args.t c.in-4.is)

pub returns-in_default : goal.returns-in_default
returns-in_default c = sym (added_word-other c.args.i c.args.t (omega arith) (omega arith))
