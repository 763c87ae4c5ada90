-- What was read is the number of the word, or it has none.
use Rattle.std.proofs.Common.{◌∙◌, sym}
use Rattle.fle_words.proofs.Counts.{counts, uncounted, unread}
use Rattle.fle_words.proofs.words.count_in.Goals as goal

pub returns-in-Ok-clause-count : goal.returns-in-Ok-clause-count
returns-in-Ok-clause-count c =
    sym (counts c.args.word.now c.in-Ok.n (sym c.is_count.ensures.count ∙ c.if-is_count.true))

pub returns-in_default-clause-count : goal.returns-in_default-clause-count
returns-in_default-clause-count c =
    sym (uncounted c.args.word.now c.in-Ok.n c.parse.result c.parse.ensures.value.0 c.in-Ok.is
    (sym c.is_count.ensures.count ∙ c.if-is_count.false))

pub returns-in_default-2-clause-count : goal.returns-in_default-2-clause-count
returns-in_default-2-clause-count c =
    sym (unread c.args.word.now _ c.parse.result c.parse.ensures.value.0 c.in_default.is)
