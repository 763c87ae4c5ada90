-- The keys are those that the vault has for the command's values.
use Rattle.std.proofs.Common.{◌≡◌, ◌∙◌, ap, subst}
use Rattle.bson_codec.specs.Borrowed.{At}
use Rattle.context_machine.specs.Rings.{finder}
use Rattle.context_machine.specs.States.{Waits}
use Rattle.encrypt_schema.specs.Commands.Targets.{rows_in}
use Rattle.fle_engine.specs.Answers.{AnswerIs}
use Rattle.fle_engine.specs.Sealing.{seal_under}
use Rattle.fle_engine.proofs.Seals.{keys_sealed, keys_stop}
use Rattle.fle_engine.proofs.sealing.seal_marked.Goals as goal

pub returns-in-Ok-clause-answers : goal.returns-in-Ok-clause-answers
returns-in-Ok-clause-answers g c =
    keys_sealed (finder c.args.keys.now c.args.cache.now.master) c.args.state c.in-Ok.state
    (g.N.Entropy.seen c.args.entropy.now) (g.N.Entropy.seen c.seal_ready.new.entropy) c.seal_ready.result
    c.requires.whole c.in-Ok.ensures.ready c.in-Ok.ensures.opened c.in-Ok.ensures.fits c.seal_ready.ensures.answers

pub returns-in-Err-clause-answers : goal.returns-in-Err-clause-answers
returns-in-Err-clause-answers g c =
    let seen = g.N.Entropy.seen c.args.entropy.now in
    let state = c.args.state in
    let keys = finder c.args.keys.now c.args.cache.now.master in
    let v = seal_under keys (rows_in state.info) state.command.tree in
    let here : c.command.result.now ≡ state.command =
    c.command.ensures.command ∙ ap (λ (w : Waits). w.command) c.in-Err.ensures.back in
    subst (λ (d : At). AnswerIs v d.tree seen seen c.refuse_stop.result) here
    (c.refuse_stop.ensures.answers v seen
    (keys_stop keys state c.in-Err.stop c.requires.whole c.in-Err.ensures.stop))
