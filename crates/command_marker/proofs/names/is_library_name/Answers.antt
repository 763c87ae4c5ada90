use Rattle.std.proofs.Common.{◌∙◌, sym}
use Rattle.command_marker.proofs.Targets.{library_marked, library_passed, library_rest}
use Rattle.command_marker.proofs.names.is_library_name.Goals as goal

pub returns-then-is_marked : goal.returns-then-is_marked
returns-then-is_marked c = library_marked c.args.name.now (sym c.is_marked.ensures ∙ c.if-is_marked.true)

pub returns-then-is_passed : goal.returns-then-is_passed
returns-then-is_passed c =
    library_passed c.args.name.now (sym c.is_marked.ensures ∙ c.if-is_marked.false)
    (sym c.is_passed.ensures ∙ c.if-is_passed.true)

pub returns : goal.returns
returns c =
    c.is_one_of_a_library.ensures
    ∙ library_rest c.args.name.now (sym c.is_marked.ensures ∙ c.if-is_marked.false)
    (sym c.is_passed.ensures ∙ c.if-is_passed.false)
