-- What the judge of clear commands answers says what a command comes to, and how many blocks it draws.
use Rattle.std.proofs.Common.{[]}
use Rattle.fle_engine.specs.More.{more_keys_ruling}
use Rattle.fle_engine.specs.Rulings.{makes, plain_plan}
use Rattle.fle_engine.specs.Wide.{wide_draws, wide_keys_ruling}
use Rattle.fle_engine.specs.declared.answer.Answer.TheVariants as answers
use Rattle.fle_engine.proofs.Cleared.{clear_answer, clear_draws, judged_answer, judged_draws, none_made}
use Rattle.fle_engine.proofs.Cleared.{refused_answer}
use Rattle.fle_engine.proofs.Unmade.{spot_undrawing}
use Rattle.fle_engine.proofs.wide.ask_for_wide.Goals as goal

pub returns-in-NotClear-clause-answers : goal.returns-in-NotClear-clause-answers
unfolding wide_keys_ruling
returns-in-NotClear-clause-answers c = λ e.
    let command = c.args.command.now in
    let told = rw c.in-NotClear.is at c.judge_clear.ensures.judged in
    judged_answer (makes (plain_plan []))
    (more_keys_ruling c.args.keys.now c.args.infos.now c.args.db.now command.tree) command
    c.ask_for_more.result.answer e e told (c.ask_for_more.ensures.answers e)

pub returns-in-NotClear-clause-draws : goal.returns-in-NotClear-clause-draws
returns-in-NotClear-clause-draws c =
    let told = rw c.in-NotClear.is at c.judge_clear.ensures.judged in
    judged_draws c.args.infos.now c.args.command.now c.ask_for_more.result.answer c.ask_for_more.result.draws told
    c.ask_for_more.ensures.draws

pub returns-in-Clear-clause-answers : goal.returns-in-Clear-clause-answers
unfolding wide_keys_ruling
returns-in-Clear-clause-answers c = λ e.
    let command = c.args.command.now in
    let told = rw c.in-Clear.is at c.judge_clear.ensures.judged in
    clear_answer (makes (plain_plan []))
    (more_keys_ruling c.args.keys.now c.args.infos.now c.args.db.now command.tree) command (answers.Made c.new.result) e
    c.requires.whole told (none_made command.tree c.new.result e c.new.ensures.items)

pub returns-in-Clear-clause-draws : goal.returns-in-Clear-clause-draws
returns-in-Clear-clause-draws c =
    let told = rw c.in-Clear.is at c.judge_clear.ensures.judged in
    clear_draws c.args.infos.now c.args.command.now told

pub returns-in-Refused-clause-answers : goal.returns-in-Refused-clause-answers
unfolding wide_keys_ruling
returns-in-Refused-clause-answers c = λ e.
    let command = c.args.command.now in
    let told = rw c.in-Refused.is at c.judge_clear.ensures.judged in
    refused_answer (makes (plain_plan []))
    (more_keys_ruling c.args.keys.now c.args.infos.now c.args.db.now command.tree) command c.in-Refused.reason
    c.in-Refused.at c.refuse.result e c.requires.whole told (c.refuse.ensures.answers e)

pub returns-in-Refused-clause-draws : goal.returns-in-Refused-clause-draws
returns-in-Refused-clause-draws c =
    let tree = c.args.command.now.tree in
    spot_undrawing (wide_draws c.args.infos.now tree) tree _ c.refuse.result c.refuse.ensures.answers
