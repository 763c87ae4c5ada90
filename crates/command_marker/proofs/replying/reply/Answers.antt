use Rattle.command_marker.proofs.Planned.{planned}
use Rattle.command_marker.proofs.Replies.{marked_is}
use Rattle.command_marker.proofs.replying.reply.Goals as goal

pub reply_by-requires : goal.reply_by-requires
reply_by-requires c =
    record {
      plan = planned c.rows.result.now c.args.marked.now.rows c.command-command.result c.args.marked.now.command
          c.marks.result.now
          c.rows.ensures.rows c.command-command.ensures.command c.marks.ensures.marks;
    }

pub returns : goal.returns
returns c =
    record {
      replies = marked_is c.rows.result.now c.args.marked.now.rows c.command-command.result c.args.marked.now.command
          c.marks.result.now c.reply_by.result
          c.rows.ensures.rows c.command-command.ensures.command c.marks.ensures.marks c.command-command.ensures.marked
          c.reply_by.ensures.replies;
    }
