-- What the judge of clear commands answers says what a command comes to.
use Rattle.std.proofs.Common.{[]}
use Rattle.fle_engine.specs.More.{more_info_ruling}
use Rattle.fle_engine.specs.Rulings.{makes, plain_plan}
use Rattle.fle_engine.specs.Wide.{wide_info_ruling}
use Rattle.fle_engine.specs.declared.answer.Answer.TheVariants as answers
use Rattle.fle_engine.proofs.Cleared.{clear_answer, judged_answer, none_made, refused_answer}
use Rattle.fle_engine.proofs.wide.ask_for_wide_info.Goals as goal

pub returns-in-NotClear : goal.returns-in-NotClear
unfolding wide_info_ruling
returns-in-NotClear c =
    let command = c.args.command.now in
    let told = rw c.in-NotClear.is at c.judge_clear.ensures.judged in
    record {
      answers = λ e. judged_answer (makes (plain_plan [])) (more_info_ruling c.args.db.now command.tree) command
          c.ask_for_more_info.result e e told (c.ask_for_more_info.ensures.answers e);
    }

pub returns-in-Clear : goal.returns-in-Clear
unfolding wide_info_ruling
returns-in-Clear c =
    let command = c.args.command.now in
    let told = rw c.in-Clear.is at c.judge_clear.ensures.judged in
    record {
      answers = λ e. clear_answer (makes (plain_plan [])) (more_info_ruling c.args.db.now command.tree) command
          (answers.Made c.new.result) e c.requires.whole told
          (none_made command.tree c.new.result e c.new.ensures.items);
    }

pub returns-in-Refused : goal.returns-in-Refused
unfolding wide_info_ruling
returns-in-Refused c =
    let command = c.args.command.now in
    let told = rw c.in-Refused.is at c.judge_clear.ensures.judged in
    record {
      answers = λ e. refused_answer (makes (plain_plan [])) (more_info_ruling c.args.db.now command.tree) command
          c.in-Refused.reason c.in-Refused.at c.refuse.result e c.requires.whole told (c.refuse.ensures.answers e);
    }
