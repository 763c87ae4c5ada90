use Rattle.std.proofs.Common.{◌≡◌, ◌<◌, [], length, arith}
use Rattle.command_marker.specs.Places.{command_station}
use Rattle.command_marker.proofs.Checked.{ruled_beyond, unruled_beyond}
use Rattle.command_marker.proofs.checking.check_contents.Goals as goal

pub returns-then-len-eq0 : goal.returns-then-len-eq0
returns-then-len-eq0 c =
    let none : length c.args.rows.now ≡ 0 = omega (arith, c.len.ensures.count, c.if-len-eq0.true) in
    record { told = unruled_beyond c.args.rows.now c.args.command.now.start c.args.command.now.tree none }

pub returns : goal.returns
returns c =
    let rows = c.args.rows.now in
    let command = c.args.command.now in
    let some : 0 < length rows = omega (arith, c.len.ensures.count, c.if-len-eq0.false) in
    record {
      told = ruled_beyond rows command.start command.tree (command_station c.wide_place-at.result rows)
          c.check_elements.result some c.requires.accepted (c.wide_place-at.ensures.station rows)
          (c.check_elements.ensures.told []);
    }
