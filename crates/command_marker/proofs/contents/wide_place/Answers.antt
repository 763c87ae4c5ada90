use Rattle.std.proofs.Common.{◌∙◌, sym}
use Rattle.command_marker.proofs.Checked.{wide_marked}
use Rattle.command_marker.proofs.contents.wide_place.Goals as goal

pub returns-then-is_library : goal.returns-then-is_library
returns-then-is_library c = record { station = λ rows. c.library_name.ensures.name; stands = λ rows. tt }

pub command_name-requires : goal.command_name-requires
command_name-requires c =
    record {
      marked =
          wide_marked c.args.command.now.tree c.requires.wide
          (sym c.is_library.ensures.library ∙ c.if-is_library.false);
    }

pub returns : goal.returns
returns c = record { station = λ rows. c.command_name.ensures.name; stands = λ rows. tt }
