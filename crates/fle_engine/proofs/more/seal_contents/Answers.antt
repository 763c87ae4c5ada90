-- The contents aren't refused, and nothing beyond them; or they are.
use Rattle.std.proofs.Common.{◌≡◌, ◌∙◌, ap, subst, sym}
use Rattle.bson_codec.specs.Borrowed.{At}
use Rattle.context_machine.specs.Rings.{finder}
use Rattle.context_machine.specs.States.{Asks, Waits}
use Rattle.encrypt_schema.specs.Commands.Targets.{rows_in}
use Rattle.fle_engine.specs.Answers.{AnswerIs}
use Rattle.fle_engine.specs.Rulings.{Ruling}
use Rattle.fle_engine.specs.Sealing.{seal_under}
use Rattle.fle_engine.specs.More.{more_contents}
use Rattle.fle_engine.proofs.MoreAnswers.{contents_accepted, contents_refused}
use Rattle.fle_engine.proofs.more.seal_contents.Goals as goal

pub returns-in-Ok-clause-answers : goal.returns-in-Ok-clause-answers
returns-in-Ok-clause-answers g c =
    let before = g.N.Entropy.seen c.args.entropy.now in
    let after = g.N.Entropy.seen c.seal_marked.new.entropy in
    let state = c.args.state in
    let keys = finder c.args.keys.now c.args.cache.now.master in
    let answered : AnswerIs (seal_under keys (rows_in state.info) state.command.tree) state.command.tree before after
    c.seal_marked.result =
    subst (λ (w : Waits). AnswerIs (seal_under keys (rows_in w.info) w.command.tree) w.command.tree before after
    c.seal_marked.result) c.in-Ok.ensures.waits c.seal_marked.ensures.answers in
    subst (λ (v : Ruling). AnswerIs v state.command.tree before after c.seal_marked.result)
    (sym (contents_accepted (seal_under keys) state c.requires.whole c.in-Ok.ensures.accepted c.in-Ok.ensures.beyond))
    answered

pub returns-in-Err-clause-answers : goal.returns-in-Err-clause-answers
returns-in-Err-clause-answers g c =
    let seen = g.N.Entropy.seen c.args.entropy.now in
    let state = c.args.state in
    let keys = finder c.args.keys.now c.args.cache.now.master in
    let v = more_contents (seal_under keys) (rows_in state.info) state.command.tree in
    let here : c.command.result.now ≡ state.command =
    c.command.ensures.command ∙ ap (λ (a : Asks). a.command) c.in-Err.ensures.back in
    subst (λ (d : At). AnswerIs v d.tree seen seen c.refuse_fault.result) here
    (c.refuse_fault.ensures.answers v seen
    (contents_refused (seal_under keys) state c.in-Err.fault c.requires.whole c.in-Err.ensures.refused))
