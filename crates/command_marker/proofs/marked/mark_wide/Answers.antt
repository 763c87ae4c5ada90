-- A marked command is one of which nothing is refused.
use Rattle.command_marker.proofs.Checked.{wide_read}
use Rattle.command_marker.proofs.marked.mark_wide.Goals as goal

pub invariant_of-result : goal.invariant_of-result
invariant_of-result c =
    let told = c.in-Ok.ensures.marks in
    (told.0, told.1, wide_read c.args.command.tree c.requires.wide)
