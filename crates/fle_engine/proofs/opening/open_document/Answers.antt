-- A payload may have a length that none has.
use Rattle.std.proofs.Common.{◌≡◌, ◌∙◌, ap, length, rules, subst}
use Rattle.bson_codec.specs.Borrowed.{At}
use Rattle.bson_tree.specs.Spelling.{doc_bytes}
use Rattle.context_machine.specs.Decrypting.{IsMisshapen}
use Rattle.context_machine.specs.Rings.{ring}
use Rattle.context_machine.specs.States.{Opens}
use Rattle.fle_engine.specs.Answers.{HasAtMost}
use Rattle.fle_engine.specs.Opening.{open_ruling}
use Rattle.fle_engine.proofs.Unmade.{fault_short}
use Rattle.fle_engine.proofs.Unseals.{misshapen_told}
use Rattle.fle_engine.proofs.opening.open_document.Goals as goal

pub returns-in-Err-clause-answers : goal.returns-in-Err-clause-answers
returns-in-Err-clause-answers g c = λ e.
    let keys = ring c.args.keys.now c.args.cache.now.master in
    let d = c.args.document in
    let same : c.again.result ≡ d = search rules in
    let is = subst (λ (x : At). IsMisshapen x c.in-Err.fault) same c.in-Err.ensures.refused in
    c.refuse_fault.ensures.answers (open_ruling keys d.tree) e
    (misshapen_told keys d c.in-Err.fault c.requires.whole is)

pub returns-in-Ok-clause-short : goal.returns-in-Ok-clause-short
returns-in-Ok-clause-short g c =
    let same : c.again.result ≡ c.args.document = search rules in
    let here : c.in-Ok.state.document ≡ c.args.document =
    ap (λ (x : Opens). x.document) c.in-Ok.ensures.begun ∙ same in
    subst (λ (x : At). HasAtMost (length (doc_bytes x.tree)) c.open_shaped.result) here c.open_shaped.ensures.short

pub returns-in-Err-clause-short : goal.returns-in-Err-clause-short
returns-in-Err-clause-short g c =
    fault_short (length (doc_bytes c.args.document.tree)) _ c.in-Err.fault c.refuse_fault.result
    c.refuse_fault.ensures.answers
