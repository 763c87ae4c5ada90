use Rattle.command_marker.proofs.Checked.{more_refused, more_told}
use Rattle.command_marker.proofs.marked.checked.Goals as goal

pub returns-in-Ok : goal.returns-in-Ok
returns-in-Ok c = record {
  marks = more_told c.args.rows.now c.args.command.now c.args.marks c.requires.marked c.in-Ok.ensures.told;
}

pub returns-in-Err : goal.returns-in-Err
returns-in-Err c = record {
  marks = more_refused c.args.rows.now c.args.command.now c.in-Err.fault c.requires.marked.1 c.in-Err.ensures.told;
}
