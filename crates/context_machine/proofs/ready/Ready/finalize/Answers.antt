-- The command is sealed, or a block couldn't be drawn.
use Rattle.std.proofs.Common.{◌∙◌, ap, arith, length}
use Rattle.context_machine.proofs.Finishing.{fell_as, filled, finished_as, long_as, ready_still, sealed_as, size_as}
use Rattle.context_machine.proofs.ready.Ready.finalize.Goals as goal

pub returns-in-Ok-clause-done : goal.returns-in-Ok-clause-done
returns-in-Ok-clause-done g c =
    finished_as c.self.inside.waited c.self.inside.table _ c.args.self c.sealed-done.result c.self.view_is
    c.sealed-done.ensures.done

pub returns-in-Ok-clause-sealed : goal.returns-in-Ok-clause-sealed
returns-in-Ok-clause-sealed g c =
    sealed_as c.self.inside.waited c.self.inside.table c.seal_into.new.out _ _ _ c.args.self c.sealed-done.result
    c.self.view_is c.sealed-done.ensures.done
    (filled c.self.inside.out.items c.seal_into.new.out c.self.inside.out.len
    (c.seal_into.ensures.size ∙ ap length c.deref_mut.ensures.value)
    (omega (arith, c.deref_mut.ensures.len, ap length c.deref_mut.ensures.value)))
    c.in-Ok.ensures.sealed

pub returns-in-Ok-clause-size : goal.returns-in-Ok-clause-size
returns-in-Ok-clause-size g c =
    size_as c.self.inside.waited c.self.inside.table c.self.inside.out.items _ c.args.self c.sealed-done.result
    c.self.view_is c.sealed-done.ensures.done c.self.invariant
    (ap length (filled c.self.inside.out.items c.seal_into.new.out c.self.inside.out.len
    (c.seal_into.ensures.size ∙ ap length c.deref_mut.ensures.value)
    (omega (arith, c.deref_mut.ensures.len, ap length c.deref_mut.ensures.value))) ∙ c.seal_into.ensures.size
    ∙ ap length c.deref_mut.ensures.value)

pub new-ready-requires : goal.new-ready-requires
new-ready-requires g c = record {
  ready = ready_still c.self.inside.waited c.self.inside.table c.self.inside.out.items _ c.self.invariant
      (ap length (filled c.self.inside.out.items c.seal_into.new.out c.self.inside.out.len
      (c.seal_into.ensures.size ∙ ap length c.deref_mut.ensures.value)
      (omega (arith, c.deref_mut.ensures.len, ap length c.deref_mut.ensures.value))) ∙ c.seal_into.ensures.size
      ∙ ap length c.deref_mut.ensures.value);
}

pub returns-in-Err-clause-done : goal.returns-in-Err-clause-done
returns-in-Err-clause-done g c = tt

pub returns-in-Err-clause-sealed : goal.returns-in-Err-clause-sealed
returns-in-Err-clause-sealed g c = tt

pub returns-in-Err-clause-size : goal.returns-in-Err-clause-size
returns-in-Err-clause-size g c = tt

pub returns-in-Err-clause-back : goal.returns-in-Err-clause-back
returns-in-Err-clause-back g c = c.new-ready.ensures.ready ∙ c.self.view_is

pub returns-in-Err-clause-failed : goal.returns-in-Err-clause-failed
returns-in-Err-clause-failed g c =
    fell_as c.self.inside.waited c.self.inside.table _ _ c.args.self c.self.view_is c.in-Err.ensures.failed

pub returns-in-Ok-clause-long : goal.returns-in-Ok-clause-long
returns-in-Ok-clause-long g c =
    long_as c.self.inside.waited c.self.inside.table c.args.self c.self.view_is c.seal_into.ensures.long

pub returns-in-Err-clause-long : goal.returns-in-Err-clause-long
returns-in-Err-clause-long g c =
    long_as c.self.inside.waited c.self.inside.table c.args.self c.self.view_is c.seal_into.ensures.long
