-- What a command starts as says what is wrong with a reply to it.
use Rattle.std.proofs.Common.{List, None, subst, sym, ◌≡◌, ℕ}
use Rattle.context_machine.specs.Waiting.{IsRefusal}
use Rattle.encrypt_schema.specs.Commands.Targets.{verdict}
use Rattle.encrypt_schema.specs.declared.command.marks.MarkFault.TheVariants as faults
use Rattle.fle_engine.specs.Checking.{wrong_to}
use Rattle.fle_engine.proofs.Checks.{contents_unrefused, starts_refused, told_marked, told_passing}
use Rattle.fle_engine.proofs.Checks.{told_unruled, unrefused}
use Rattle.fle_engine.proofs.checking.take_reply.Goals as goal

pub returns-in-Ok-Passing : goal.returns-in-Ok-Passing
returns-in-Ok-Passing c =
    let infos = c.args.marker.now.infos in
    let d = c.args.command.now.tree in
    let r = c.args.reply.now in
    let start = rw c.in-Ok-Passing.field-0-is at c.in-Ok-Passing.ensures.starts in
    record {
      takes = c.tell.ensures.takes (wrong_to infos d r.tree)
          (told_passing infos d r c.check_passed.result c.requires.front start c.check_passed.ensures.wrong);
    }

pub returns-in-Ok-Some : goal.returns-in-Ok-Some
returns-in-Ok-Some c =
    let infos = c.args.marker.now.infos in
    let command = c.args.command.now in
    let r = c.args.reply.now in
    let start = rw c.in-Ok-Marking.field-0-is at c.in-Ok-Marking.ensures.starts in
    let marked = rw c.in-Ok-Some.field-0-is at c.in-Ok-Some.ensures.marked in
    record {
      takes = c.tell-in-Ok-Some.ensures.takes (wrong_to infos command.tree r.tree)
          (told_marked infos c.deref.result.now command c.in-Ok-Marking.state c.in-Ok-Some.marked r
          c.check_reply.result c.requires.front start marked c.check_reply.ensures.wrong);
    }

pub returns-in-Ok-None : goal.returns-in-Ok-None
returns-in-Ok-None c =
    let infos = c.args.marker.now.infos in
    let command = c.args.command.now in
    let r = c.args.reply.now in
    let start = rw c.in-Ok-Marking.field-0-is at c.in-Ok-Marking.ensures.starts in
    let marked = rw c.in-Ok-None.field-0-is at c.in-Ok-None.ensures.marked in
    record {
      takes = c.tell-in-Ok-None.ensures.takes (wrong_to infos command.tree r.tree)
          (told_unruled infos c.deref.result.now command c.in-Ok-Marking.state r c.check_passed-in-Ok-None.result
          c.requires.front start marked c.check_passed-in-Ok-None.ensures.wrong);
    }

pub unreachable-requires : goal.unreachable-requires
unreachable-requires c =
    let infos = c.args.marker.now.infos in
    let command = c.args.command.now in
    let state = c.in-Ok-Marking.state in
    let reason = c.in-Err-Refused-marked.field-0-0 in
    let at = c.in-Err-Refused-marked.field-0-1 in
    let start = rw c.in-Ok-Marking.field-0-is at c.in-Ok-Marking.ensures.starts in
    let told = rw c.in-Err-Refused-marked.field-0-is at c.in-Err-Refused-marked.ensures.refused in
    contents_unrefused infos c.deref.result.now command state reason at c.requires.whole
    (subst (λ (db : List ℕ). verdict db infos 0 command.tree ≡ None) (sym c.deref.ensures.value) c.requires.accepted)
    start told

pub unreachable-requires-in-Err-Refused : goal.unreachable-requires-in-Err-Refused
unreachable-requires-in-Err-Refused c =
    let infos = c.args.marker.now.infos in
    let command = c.args.command.now in
    let reason = c.in-Err-Refused.field-0-0 in
    let at = c.in-Err-Refused.field-0-1 in
    let start = rw c.in-Err-Refused.field-0-is at c.in-Err-Refused.ensures.starts in
    unrefused (verdict c.args.marker.now.db.items infos 0 command.tree) reason at c.requires.accepted
    (subst (λ (db : List ℕ). IsRefusal (verdict db infos 0 command.tree) (faults.Refused reason at))
    c.deref.ensures.value
    (starts_refused infos c.deref.result.now command (faults.Refused reason at) start))
