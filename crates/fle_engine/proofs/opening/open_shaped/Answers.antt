-- The keys are those that the vault has for the document's payloads.
use Rattle.std.proofs.Common.{◌≡◌, ◌∙◌, ap, length, subst}
use Rattle.bson_codec.specs.Borrowed.{At}
use Rattle.bson_tree.specs.Spelling.{doc_bytes}
use Rattle.context_machine.specs.Rings.{ring}
use Rattle.context_machine.specs.States.{Opens, OpensWith}
use Rattle.fle_engine.specs.Answers.{AnswerIs, HasAtMost}
use Rattle.fle_engine.specs.Opening.{open_ruling}
use Rattle.fle_engine.proofs.Unmade.{stop_short}
use Rattle.fle_engine.proofs.Unseals.{keyless_told, keys_open}
use Rattle.fle_engine.proofs.opening.open_shaped.Goals as goal

pub returns-in-Ok-clause-answers : goal.returns-in-Ok-clause-answers
returns-in-Ok-clause-answers g c = λ e.
    keys_open (ring c.args.keys.now c.args.cache.now.master) c.args.state c.in-Ok.state e c.open_ready.result
    c.in-Ok.ensures.ready c.in-Ok.ensures.opened (λ keys are. c.open_ready.ensures.answers keys e are)

pub returns-in-Err-clause-answers : goal.returns-in-Err-clause-answers
returns-in-Err-clause-answers g c = λ e.
    let d = c.args.state.document in
    let keys = ring c.args.keys.now c.args.cache.now.master in
    let v = open_ruling keys d.tree in
    let here : c.document.result.now ≡ d =
    c.document.ensures.document ∙ ap (λ (w : Opens). w.document) c.in-Err.ensures.back in
    subst (λ (x : At). AnswerIs v x.tree e e c.refuse_stop.result) here
    (c.refuse_stop.ensures.answers v e
    (keyless_told keys d c.in-Err.stop c.requires.whole c.requires.shaped c.in-Err.ensures.refused))

pub returns-in-Ok-clause-short : goal.returns-in-Ok-clause-short
returns-in-Ok-clause-short g c =
    let here : c.in-Ok.state.document ≡ c.args.state.document =
    ap (λ (x : OpensWith). x.document) c.in-Ok.ensures.ready in
    subst (λ (x : At). HasAtMost (length (doc_bytes x.tree)) c.open_ready.result) here c.open_ready.ensures.short

pub returns-in-Err-clause-short : goal.returns-in-Err-clause-short
returns-in-Err-clause-short g c =
    stop_short (length (doc_bytes c.args.state.document.tree)) _ c.in-Err.stop c.refuse_stop.result
    c.refuse_stop.ensures.answers
