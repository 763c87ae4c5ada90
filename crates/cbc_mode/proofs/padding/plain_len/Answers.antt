use Rattle.cbc_mode.proofs.Padded.{padded_from_last, last_from_padded}
use Rattle.cbc_mode.proofs.padding.plain_len.Goals as goal

pub returns-in-Some-clause-right : goal.returns-in-Some-clause-right
returns-in-Some-clause-right c =
    let is = rw c.block_at.ensures.block at c.in-Some.ensures.right in
    padded_from_last c.args.opened.now c.in-Some.n c.requires.some c.requires.whole c.in-Some.ensures.shorter is

pub returns-in-None-clause-wrong : goal.returns-in-None-clause-wrong
returns-in-None-clause-wrong c = λ p is.
    let last = last_from_padded c.args.opened.now p is in
    c.in-None.ensures.wrong _ last.0 (rw c.block_at.ensures.block last.1)
