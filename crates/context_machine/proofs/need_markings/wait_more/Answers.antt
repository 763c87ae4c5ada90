-- Without an info no key is waited for, and a library refuses nothing.
use Rattle.std.proofs.Common.{◌≡◌, Option, None, [], ap, option_copied, refl, rules, subst, sym}
use Rattle.command_marker.proofs.Checked.{unruled_beyond}
use Rattle.encrypt_schema.specs.Commands.More.{beyond_verdict}
use Rattle.encrypt_schema.specs.Commands.Targets.{rows_in}
use Rattle.encrypt_schema.specs.Language.Collection.{Collection}
use Rattle.context_machine.specs.Kept.{Wants}
use Rattle.context_machine.proofs.Waits.{unmarked_waits}
use Rattle.context_machine.proofs.need_markings.wait_more.Goals as goal

pub new-requires : goal.new-requires
new-requires c = record {
  waiting = unmarked_waits c.again.result c.none-wanted.result (ap (λ (w : Wants). w.needs) c.none-wanted.ensures.none);
}

pub returns-in-None-clause-beyond : goal.returns-in-None-clause-beyond
returns-in-None-clause-beyond c =
    let command = c.args.command.now in
    let none : option_copied c.args.info ≡ None = search rules in
    subst (λ (o : Option Collection). beyond_verdict (rows_in o) command.start command.tree ≡ None) (sym none)
    (unruled_beyond [] command.start command.tree refl)
