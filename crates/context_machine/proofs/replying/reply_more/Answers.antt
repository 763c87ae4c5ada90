-- The command is marked under the rules of its collection, and replied to; or a library refuses its contents.
use Rattle.std.proofs.Common.{Err, Ok, Some}
use Rattle.encrypt_schema.specs.Commands.Targets.{rows_in}
use Rattle.context_machine.proofs.Answered.{accepted_more, marked_reply, more_refuses, more_under}
use Rattle.context_machine.proofs.replying.reply_more.Goals as goal

pub returns-in-Ok : goal.returns-in-Ok
returns-in-Ok c =
    let command = c.args.command.now in
    let info = c.args.info.now in
    let marks =
    more_under info c.rows.result.now command c.again.result (Ok c.in-Ok.marked) c.requires.real c.rows.ensures.rows
    c.again.ensures.same c.in-Ok.ensures.marks in
    record {
      replies = c.more_or_stop.ensures.replies (record { command = command; info = Some info })
          (accepted_more (rows_in (Some info)) command marks.1 marks.2)
          (marked_reply (rows_in (Some info)) command c.in-Ok.marked c.reply.result marks.0 c.reply.ensures.replies);
    }

pub returns-in-Err : goal.returns-in-Err
returns-in-Err c =
    let command = c.args.command.now in
    let info = c.args.info.now in
    let marks =
    more_under info c.rows.result.now command c.again.result (Err c.in-Err.fault) c.requires.real c.rows.ensures.rows
    c.again.ensures.same c.in-Err.ensures.marks in
    record {
      replies = c.more_of_fault.ensures.stops (record { command = command; info = Some info })
          (more_refuses (rows_in (Some info)) command c.in-Err.fault marks);
    }
