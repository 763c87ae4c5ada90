-- A rule that isn't there has no pointer.
use Rattle.std.proofs.Common.{◌≡◌, None, [], subst}
use Rattle.encrypt_schema.specs.Commands.Pointers.{nth_span}
use Rattle.encrypt_schema.specs.Views.Pointing.{Read, targets_read}
use Rattle.encrypt_schema.proofs.Commands.Lookups.{nameless}
use Rattle.encrypt_schema.proofs.Commands.PointerSpans.{key_past}
use Rattle.encrypt_schema.proofs.command.pointing.Pointing.is_by_id.Goals as goal

pub returns-in-None-clause-nameless : goal.returns-in-None-clause-nameless
returns-in-None-clause-nameless c =
    let inside = c.self.inside in
    λ _.
    subst (λ (r : Read). None ≡ nth_span c.args.i (targets_read r)) c.self.view_is
    (nameless inside.rows.now inside.root c.args.i [] (key_past c.args.i inside.rows.now c.in-None.ensures.rule))
