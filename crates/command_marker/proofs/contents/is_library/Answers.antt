use Rattle.std.proofs.Common.{◌∙◌, ap, sym}
use Rattle.command_marker.specs.Fields.{is_library_name}
use Rattle.command_marker.proofs.CommandVisits.{library_first}
use Rattle.command_marker.proofs.contents.is_library.Goals as goal

pub returns : goal.returns
returns c =
    record {
      library = c.is_library_name.ensures ∙ ap is_library_name c.first_name.ensures.name
          ∙ sym (library_first c.args.command.now.tree);
    }
