use Rattle.std.proofs.Common.{◌≡◌, ◌<◌, ◌∙◌, length, arith}
use Rattle.command_marker.proofs.CommandVisits.{no_rows, refused_contents}
use Rattle.command_marker.proofs.marked.listed_marks.Goals as goal

pub returns-then-len-eq0 : goal.returns-then-len-eq0
returns-then-len-eq0 c =
    let none : length c.args.rows.now ≡ 0 = omega (arith, c.len.ensures.count, c.if-len-eq0.true) in
    let told = no_rows c.args.rows.now c.args.command.now none in
    record { marks = (c.new-marks.ensures.empty ∙ told.0, told.1) }

pub returns-in-Err : goal.returns-in-Err
returns-in-Err c =
    let some : 0 < length c.args.rows.now = omega (arith, c.len.ensures.count, c.if-len-eq0.false) in
    record {
      marks = refused_contents c.args.rows.now c.args.command.now c.new-marks.result c.mark_listed.new.marks
          c.in-Err.fault some c.in-Err.ensures.marked;
    }
