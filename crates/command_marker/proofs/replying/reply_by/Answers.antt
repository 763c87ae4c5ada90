use Rattle.std.proofs.Common.{length}
use Rattle.std.specs.Prelude.{nat_lt}
use Rattle.command_marker.proofs.Planned.{marked_refused, marked_replied}
use Rattle.command_marker.proofs.replying.reply_by.Goals as goal

pub returns-in_ok-out-in-Ok : goal.returns-in_ok-out-in-Ok
returns-in_ok-out-in-Ok c =
    record {
      replies = marked_replied c.args.rows.now c.args.command.now c.args.marks.now (nat_lt 0 (length c.args.marks.now))
          (nat_lt 0 (length c.args.rows.now))
          c.in-Ok.size c.in_ok-out-in-Ok.out.items c.requires.plan c.in-Ok.ensures.size c.in_ok-out-in-Ok.ensures.parts;
    }

pub returns-in-Err : goal.returns-in-Err
returns-in-Err c =
    record {
      replies = marked_refused c.args.rows.now c.args.command.now c.args.marks.now (nat_lt 0 (length c.args.marks.now))
          (nat_lt 0 (length c.args.rows.now))
          c.in-Err.fault c.requires.plan c.in-Err.ensures.size;
    }
