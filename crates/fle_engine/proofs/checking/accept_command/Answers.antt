-- What a command starts as says whether it is accepted.
use Rattle.std.proofs.Common.{List, rules, subst, ℕ}
use Rattle.command_marker.proofs.Unmarked.{passing_verdict}
use Rattle.context_machine.specs.Waiting.{IsRefusal}
use Rattle.encrypt_schema.specs.Commands.Targets.{rows_in, verdict}
use Rattle.encrypt_schema.specs.Commands.Visits.{content_verdict}
use Rattle.fle_engine.specs.Checking.{AcceptsAs}
use Rattle.fle_engine.proofs.Checks.{accepts_by, starts_refused}
use Rattle.fle_engine.proofs.checking.accept_command.Goals as goal

pub returns-in-Ok-Passing : goal.returns-in-Ok-Passing
returns-in-Ok-Passing c =
    let start = rw c.in-Ok-Passing.field-0-is at c.in-Ok-Passing.ensures.starts in
    record {
      accepts = passing_verdict c.args.marker.now.db.items c.args.marker.now.infos 0 c.args.command.now.tree start;
    }

pub returns-in-Ok-Marking : goal.returns-in-Ok-Marking
returns-in-Ok-Marking c =
    let infos = c.args.marker.now.infos in
    let command = c.args.command.now in
    let start = rw c.in-Ok-Marking.field-0-is at c.in-Ok-Marking.ensures.starts in
    let state = c.in-Ok-Marking.state in
    let told : AcceptsAs (content_verdict (rows_in state.info) state.command.start state.command.tree)
    state.command.tree c.accept_contents.result = search rules in
    record {
      accepts = subst (λ (db : List ℕ). AcceptsAs (verdict db infos 0 command.tree) command.tree
          c.accept_contents.result) c.deref.ensures.value
          (accepts_by infos c.deref.result.now command c.in-Ok-Marking.state c.accept_contents.result c.requires.whole
          start told);
    }

pub returns-in-Err : goal.returns-in-Err
returns-in-Err c =
    let infos = c.args.marker.now.infos in
    let command = c.args.command.now in
    record {
      accepts = c.decline.ensures.declines (verdict c.args.marker.now.db.items infos 0 command.tree)
          (subst (λ (db : List ℕ). IsRefusal (verdict db infos 0 command.tree) c.in-Err.fault) c.deref.ensures.value
          (starts_refused infos c.deref.result.now command c.in-Err.fault c.in-Err.ensures.starts));
    }
