-- A marked command is sealed at its marks; without an info nothing is sealed.
use Rattle.std.proofs.Common.{ap}
use Rattle.command_marker.specs.Commands.{Command}
use Rattle.context_machine.proofs.Readies.{clear_plan}
use Rattle.doc_rewrite.proofs.Stands.{marked_stand}
use Rattle.context_machine.proofs.need_keys.plan_of.Goals as goal

pub plan_seal-requires : goal.plan_seal-requires
plan_seal-requires c =
    let is = rw c.in-Some.is at c.requires.marked in
    record {
      stands = marked_stand c.in-Some.marked.rows c.rows.result.now c.in-Some.marked.command c.marks.result.now
          c.args.command.now
          (ap (λ (m : Command). m.command) is) c.rows.ensures.rows c.marks.ensures.marks c.marks.ensures.accepted;
    }

pub returns-in-Ok-plan_clear-clause-plan : goal.returns-in-Ok-plan_clear-clause-plan
returns-in-Ok-plan_clear-clause-plan c =
    let none = rw c.in-None.is at c.requires.marked in
    let clear = c.in-Ok-plan_clear.ensures in
    clear_plan _ c.args.command.now c.in-Ok-plan_clear.plan none clear.sites clear.size clear.stands clear.most
