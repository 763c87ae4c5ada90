-- The keys of a command of which nothing is refused, or its refusal.
use Rattle.std.proofs.Common.{◌∙◌, ap, subst}
use Rattle.bson_codec.specs.Borrowed.{At}
use Rattle.context_machine.specs.Ready.{values_of}
use Rattle.context_machine.specs.States.{Asks, Waits}
use Rattle.doc_rewrite.specs.Sites.{draws_of}
use Rattle.encrypt_schema.specs.Commands.Targets.{rows_in}
use Rattle.fle_engine.specs.Answers.{AnswerIs}
use Rattle.fle_engine.specs.Asked.{TellsDraws, asks}
use Rattle.fle_engine.specs.More.{more_contents}
use Rattle.fle_engine.proofs.Unmade.{fault_undrawing}
use Rattle.fle_engine.proofs.MoreAnswers.{contents_refused}
use Rattle.fle_engine.proofs.MoreAsked.{contents_asked}
use Rattle.fle_engine.proofs.more_asking.ask_by_more.Goals as goal

pub returns-in-Ok-clause-answers : goal.returns-in-Ok-clause-answers
returns-in-Ok-clause-answers c = λ e.
    contents_asked c.args.keys.now c.args.state c.in-Ok.state c.ask_keys.result.answer e c.requires.whole
    c.in-Ok.ensures.waits c.in-Ok.ensures.accepted c.in-Ok.ensures.beyond
    (c.ask_keys.ensures.answers c.args.state.command.tree e)

pub returns-in-Ok-clause-draws : goal.returns-in-Ok-clause-draws
returns-in-Ok-clause-draws c =
    subst (λ (w : Waits). TellsDraws (draws_of (values_of w.info w.command)) c.ask_keys.result.answer
    c.ask_keys.result.draws) c.in-Ok.ensures.waits c.ask_keys.ensures.draws

pub returns-in-Err-clause-answers : goal.returns-in-Err-clause-answers
returns-in-Err-clause-answers c = λ e.
    let keys = c.args.keys.now in
    let state = c.args.state in
    let v = more_contents (asks keys) (rows_in state.info) state.command.tree in
    let here = c.command.ensures.command ∙ ap (λ (a : Asks). a.command) c.in-Err.ensures.back in
    subst (λ (d : At). AnswerIs v d.tree e e c.refuse_fault.result) here
    (c.refuse_fault.ensures.answers v e
    (contents_refused (asks keys) state c.in-Err.fault c.requires.whole c.in-Err.ensures.refused))

pub returns-in-Err-clause-draws : goal.returns-in-Err-clause-draws
returns-in-Err-clause-draws c =
    fault_undrawing (draws_of (values_of c.args.state.info c.args.state.command)) _ c.in-Err.fault
    c.refuse_fault.result c.refuse_fault.ensures.answers
