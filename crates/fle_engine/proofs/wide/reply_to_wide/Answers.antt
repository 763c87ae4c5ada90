-- What the judge of clear commands answers says what a command comes to.
use Rattle.command_marker.specs.Reply.{reply_clear_to}
use Rattle.fle_engine.specs.More.{more_marking}
use Rattle.fle_engine.specs.Replies.{sized}
use Rattle.fle_engine.specs.Wide.{wide_marking}
use Rattle.fle_engine.proofs.Cleared.{clear_answer, judged_answer, refused_answer}
use Rattle.fle_engine.proofs.wide.reply_to_wide.Goals as goal

pub returns-in-NotClear : goal.returns-in-NotClear
unfolding wide_marking
returns-in-NotClear c =
    let command = c.args.command.now in
    let passing = sized (reply_clear_to command.tree) in
    let judged = more_marking c.args.infos.now c.args.db.now command.tree in
    let told = rw c.in-NotClear.is at c.judge_clear.ensures.judged in
    record {
      answers = λ e. judged_answer passing judged command
          c.reply_to_more.result e e told (c.reply_to_more.ensures.answers e);
    }

pub returns-in-Clear : goal.returns-in-Clear
unfolding wide_marking
returns-in-Clear c =
    let command = c.args.command.now in
    let passing = sized (reply_clear_to command.tree) in
    let judged = more_marking c.args.infos.now c.args.db.now command.tree in
    let told = rw c.in-Clear.is at c.judge_clear.ensures.judged in
    record {
      answers = λ e. clear_answer passing judged command
          c.answer_reply.result e c.requires.whole told
          (c.answer_reply.ensures.answers _ command.tree e c.reply_clear.ensures.replies);
    }

pub returns-in-Refused : goal.returns-in-Refused
unfolding wide_marking
returns-in-Refused c =
    let command = c.args.command.now in
    let passing = sized (reply_clear_to command.tree) in
    let judged = more_marking c.args.infos.now c.args.db.now command.tree in
    let told = rw c.in-Refused.is at c.judge_clear.ensures.judged in
    record {
      answers = λ e. refused_answer passing judged command
          c.in-Refused.reason c.in-Refused.at c.refuse.result e c.requires.whole told (c.refuse.ensures.answers e);
    }
