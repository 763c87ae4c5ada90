use Rattle.std.proofs.Common.{◌≡◌, ◌∙◌, ◌||◌, Bool, true, false, ap, sym}
use Rattle.command_marker.specs.Commands.{is_library_command, is_marked_command}
use Rattle.command_marker.specs.Fields.{is_marked_name}
use Rattle.command_marker.proofs.CommandVisits.{marked_first}
use Rattle.command_marker.proofs.contents.is_wide.Goals as goal

pub returns-then-is_marked : goal.returns-then-is_marked
returns-then-is_marked c =
    let command = c.args.command.now.tree in
    let marked : is_marked_command command ≡ true = sym (marked_first command)
    ∙ ap is_marked_name (sym c.first_name.ensures.name) ∙ sym c.is_marked.ensures ∙ c.if-is_marked.true in
    record { wide = sym (ap (λ (b : Bool). b || is_library_command command) marked) }

pub returns : goal.returns
returns c =
    let command = c.args.command.now.tree in
    let marked : is_marked_command command ≡ false = sym (marked_first command)
    ∙ ap is_marked_name (sym c.first_name.ensures.name) ∙ sym c.is_marked.ensures ∙ c.if-is_marked.false in
    record {
      wide = c.is_library.ensures.library ∙ sym (ap (λ (b : Bool). b || is_library_command command) marked);
    }
