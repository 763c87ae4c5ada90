use Rattle.command_marker.proofs.Checked.{more_contents}
use Rattle.command_marker.proofs.marked.more_marks.Goals as goal

pub returns-in-Err : goal.returns-in-Err
returns-in-Err c = record {
  marks = more_contents c.args.rows.now c.args.command.now c.in-Err.fault c.in-Err.ensures.marks;
}
