-- What a command starts as says what it comes to.
use Rattle.fle_engine.specs.More.{more_marking}
use Rattle.fle_engine.proofs.MoreAnswers.{marking_replied, passing_replied, refused_replied}
use Rattle.fle_engine.proofs.more.reply_to_more.Goals as goal

pub returns-in-Ok-Passing : goal.returns-in-Ok-Passing
returns-in-Ok-Passing c =
    let command = c.args.command.now in
    let start = rw c.in-Ok-Passing.field-0-is at c.in-Ok-Passing.ensures.starts in
    record {
      answers = λ e.
          passing_replied c.args.infos.now c.args.db.now command.tree c.answer_reply.result e start
          (c.answer_reply.ensures.answers _ command.tree e c.reply_clear.ensures.replies);
    }

pub returns-in-Ok-Marking : goal.returns-in-Ok-Marking
returns-in-Ok-Marking c =
    let infos = c.args.infos.now in
    let command = c.args.command.now in
    let start = rw c.in-Ok-Marking.field-0-is at c.in-Ok-Marking.ensures.starts in
    record {
      answers = λ e.
          marking_replied infos c.args.db.now command c.in-Ok-Marking.state c.reply_contents.result e start
          (c.reply_contents.ensures.answers e);
    }

pub returns-in-Err : goal.returns-in-Err
returns-in-Err c =
    let infos = c.args.infos.now in
    let command = c.args.command.now in
    record {
      answers = λ e.
          c.refuse_fault.ensures.answers (more_marking infos c.args.db.now command.tree) e
          (refused_replied infos c.args.db.now command c.in-Err.fault c.in-Err.ensures.starts);
    }
