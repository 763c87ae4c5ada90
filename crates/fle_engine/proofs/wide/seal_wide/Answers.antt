-- What the judge of clear commands answers says what a command comes to.
use Rattle.bson_tree.specs.Spelling.{doc_bytes}
use Rattle.context_machine.specs.Rings.{finder}
use Rattle.fle_engine.specs.More.{more_ruling}
use Rattle.fle_engine.specs.Replies.{sized}
use Rattle.fle_engine.specs.Wide.{wide_ruling}
use Rattle.fle_engine.proofs.Cleared.{clear_answer, judged_answer, refused_answer}
use Rattle.fle_engine.proofs.wide.seal_wide.Goals as goal

pub returns-in-NotClear-clause-answers : goal.returns-in-NotClear-clause-answers
unfolding wide_ruling
returns-in-NotClear-clause-answers g c =
    let keys = finder c.args.opener.now.keys c.args.opener.now.cache.master in
    let command = c.args.command.now in
    let told = rw c.in-NotClear.is at c.judge_clear.ensures.judged in
    judged_answer (sized (doc_bytes command.tree))
    (more_ruling keys c.args.infos.now c.args.db.now command.tree) command c.seal_more.result
    (g.N.Entropy.seen c.args.entropy.now) (g.N.Entropy.seen c.seal_more.new.entropy) told
    c.seal_more.ensures.answers

pub returns-in-Clear-clause-answers : goal.returns-in-Clear-clause-answers
unfolding wide_ruling
returns-in-Clear-clause-answers g c =
    let keys = finder c.args.opener.now.keys c.args.opener.now.cache.master in
    let command = c.args.command.now in
    let seen = g.N.Entropy.seen c.args.entropy.now in
    let told = rw c.in-Clear.is at c.judge_clear.ensures.judged in
    clear_answer (sized (doc_bytes command.tree)) (more_ruling keys c.args.infos.now c.args.db.now command.tree) command
    c.copy_command.result seen c.requires.whole told (c.copy_command.ensures.answers seen)

pub returns-in-Refused-clause-answers : goal.returns-in-Refused-clause-answers
unfolding wide_ruling
returns-in-Refused-clause-answers g c =
    let keys = finder c.args.opener.now.keys c.args.opener.now.cache.master in
    let command = c.args.command.now in
    let seen = g.N.Entropy.seen c.args.entropy.now in
    let told = rw c.in-Refused.is at c.judge_clear.ensures.judged in
    refused_answer (sized (doc_bytes command.tree)) (more_ruling keys c.args.infos.now c.args.db.now command.tree)
    command c.in-Refused.reason c.in-Refused.at c.refuse.result seen c.requires.whole told
    (c.refuse.ensures.answers seen)
