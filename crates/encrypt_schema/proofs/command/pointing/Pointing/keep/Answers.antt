-- What is kept for a slot is where the key of each rule of that slot is named.
use Rattle.std.proofs.Common.{◌≡◌, Some, sym, subst}
use Rattle.encrypt_schema.specs.Commands.Pointers.{nth_span}
use Rattle.encrypt_schema.specs.Views.Pointing.{Read, targets_read}
use Rattle.encrypt_schema.proofs.Commands.Lookups.{one_kept}
use Rattle.encrypt_schema.proofs.command.pointing.Pointing.keep.Goals as goal

pub invariant_of-self : goal.invariant_of-self
invariant_of-self c =
    let inside = c.self.inside in
    one_kept inside.rows.now inside.root inside.slots.now inside.names.items c.put_name.new.names.items c.self.invariant
    c.args.i c.in-Some.slot c.args.name c.in-Some.ensures.slot
    (subst (λ (r : Read). Some c.args.name ≡ nth_span c.args.i (targets_read r)) (sym c.self.view_is) c.requires.is)
    c.put_name.result c.put_name.ensures.put
