-- Without an info nothing is refused.
use Rattle.std.proofs.Common.{◌≡◌, Option, None, [], refl, rules, subst, sym}
use Rattle.command_marker.proofs.CommandVisits.{no_rows}
use Rattle.encrypt_schema.specs.Commands.Targets.{rows_in}
use Rattle.encrypt_schema.specs.Commands.Visits.{content_verdict}
use Rattle.encrypt_schema.specs.Language.Collection.{Collection}
use Rattle.context_machine.proofs.need_markings.NeedMarkings.marked.Goals as goal

pub returns-in-None-clause-accepted : goal.returns-in-None-clause-accepted
returns-in-None-clause-accepted c =
    let command = c.args.self.now.command in
    let none : c.args.self.now.info ≡ None = search rules in
    subst (λ (o : Option Collection). content_verdict (rows_in o) command.start command.tree ≡ None) (sym none)
    (no_rows [] command refl).1
