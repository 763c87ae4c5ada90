use Rattle.std.proofs.Common.{◌∙◌, sym}
use Rattle.command_marker.proofs.Checked.{wide_marked}
use Rattle.command_marker.proofs.marked.wide_marks.Goals as goal

pub marks_of-requires : goal.marks_of-requires
marks_of-requires c =
    record {
      marked =
          wide_marked c.args.command.now.tree c.requires.wide
          (sym c.is_library.ensures.library ∙ c.if-is_library.false);
    }
