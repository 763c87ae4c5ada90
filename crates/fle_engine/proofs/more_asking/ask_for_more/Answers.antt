-- What a command starts as says what it comes to.
use Rattle.std.proofs.Common.{rules}
use Rattle.context_machine.specs.Ready.{values_of}
use Rattle.doc_rewrite.specs.Sites.{draws_of}
use Rattle.encrypt_schema.specs.Commands.Targets.{rows_in, rows_of}
use Rattle.fle_outside.specs.Seen.{EntropySeen}
use Rattle.fle_engine.specs.Answers.{AnswerIs}
use Rattle.fle_engine.specs.Asked.{TellsDraws, asks, command_draws}
use Rattle.fle_engine.specs.More.{more_contents, more_keys_ruling}
use Rattle.fle_engine.proofs.Filters.{passing_draws}
use Rattle.fle_engine.proofs.Unmade.{fault_undrawing}
use Rattle.fle_engine.proofs.MoreAsked.{marking_asked, marking_draws, passing_asked, refused_asked}
use Rattle.fle_engine.proofs.more_asking.ask_for_more.Goals as goal

pub returns-in-Ok-Passing-clause-answers : goal.returns-in-Ok-Passing-clause-answers
returns-in-Ok-Passing-clause-answers c = λ e.
    let start = rw c.in-Ok-Passing.field-0-is at c.in-Ok-Passing.ensures.starts in
    passing_asked c.args.keys.now c.args.infos.now c.args.db.now c.args.command.now.tree
    c.new.result e start c.new.ensures.items

pub returns-in-Ok-Passing-clause-draws : goal.returns-in-Ok-Passing-clause-draws
returns-in-Ok-Passing-clause-draws c =
    let tree = c.args.command.now.tree in
    let start = rw c.in-Ok-Passing.field-0-is at c.in-Ok-Passing.ensures.starts in
    passing_draws (rows_of c.args.infos.now tree) tree start

pub returns-in-Ok-Marking-clause-answers : goal.returns-in-Ok-Marking-clause-answers
returns-in-Ok-Marking-clause-answers c = λ e.
    let keys = c.args.keys.now in
    let infos = c.args.infos.now in
    let command = c.args.command.now in
    let start = rw c.in-Ok-Marking.field-0-is at c.in-Ok-Marking.ensures.starts in
    let state = c.in-Ok-Marking.state in
    let a = c.ask_by_more.result.answer in
    let answered : (e : EntropySeen) → AnswerIs (more_contents (asks keys) (rows_in state.info) state.command.tree)
    state.command.tree e e a = search rules in
    marking_asked keys infos c.args.db.now command state a e start (answered e)

pub returns-in-Ok-Marking-clause-draws : goal.returns-in-Ok-Marking-clause-draws
returns-in-Ok-Marking-clause-draws c =
    let infos = c.args.infos.now in
    let command = c.args.command.now in
    let start = rw c.in-Ok-Marking.field-0-is at c.in-Ok-Marking.ensures.starts in
    let state = c.in-Ok-Marking.state in
    let told : TellsDraws (draws_of (values_of state.info state.command)) c.ask_by_more.result.answer
    c.ask_by_more.result.draws = search rules in
    marking_draws infos c.args.db.now command state c.ask_by_more.result.answer
    c.ask_by_more.result.draws c.requires.whole start told

pub returns-in-Err-clause-answers : goal.returns-in-Err-clause-answers
returns-in-Err-clause-answers c = λ e.
    let keys = c.args.keys.now in
    let infos = c.args.infos.now in
    let command = c.args.command.now in
    c.refuse_fault.ensures.answers (more_keys_ruling keys infos c.args.db.now command.tree) e
    (refused_asked keys infos c.args.db.now command c.in-Err.fault c.in-Err.ensures.starts)

pub returns-in-Err-clause-draws : goal.returns-in-Err-clause-draws
returns-in-Err-clause-draws c =
    let tree = c.args.command.now.tree in
    fault_undrawing (command_draws (rows_of c.args.infos.now tree) tree) tree c.in-Err.fault
    c.refuse_fault.result c.refuse_fault.ensures.answers
