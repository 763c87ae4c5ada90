-- The document is opened, or a payload stays sealed.
use Rattle.std.proofs.Common.{◌∙◌, ap, arith, length, subst, sym}
use Rattle.bson_codec.specs.Borrowed.{At}
use Rattle.bson_tree.specs.Spelling.{doc_bytes}
use Rattle.fle_engine.specs.Answers.{AnswerIs}
use Rattle.fle_engine.specs.Rulings.{Ruling, refused}
use Rattle.fle_engine.proofs.Unmade.{spot_short}
use Rattle.fle_engine.proofs.Unseals.{opened_made, sealed_told}
use Rattle.fle_engine.proofs.opening.open_ready.Goals as goal

pub returns-in-Ok-clause-answers : goal.returns-in-Ok-clause-answers
returns-in-Ok-clause-answers g c = λ keys e are.
    opened_made keys c.args.state.document c.args.state.table c.in-Ok.done.bytes
    c.into_bytes.result e c.requires.whole are c.in-Ok.ensures.opened c.into_bytes.ensures.bytes

pub returns-in-Ok-clause-short : goal.returns-in-Ok-clause-short
returns-in-Ok-clause-short g c = omega (arith, c.in-Ok.ensures.short, ap length c.into_bytes.ensures.bytes)

pub returns-in-Err-clause-answers : goal.returns-in-Err-clause-answers
returns-in-Err-clause-answers g c = λ keys e are.
    let d = c.args.state.document in
    let spot = c.in-Err.spot in
    subst (λ (v : Ruling). AnswerIs v d.tree e e c.refuse.result)
    (sym (sealed_told keys d c.args.state.table spot c.requires.whole are c.in-Err.ensures.refused))
    (subst (λ (x : At). AnswerIs (refused (record { reason = spot.reason; at = spot.at })) x.tree e e
    c.refuse.result) (c.again-document.ensures.same ∙ c.document.ensures.document)
    (c.refuse.ensures.answers e))

pub returns-in-Err-clause-short : goal.returns-in-Err-clause-short
returns-in-Err-clause-short g c =
    let spot = c.in-Err.spot in
    spot_short (length (doc_bytes c.args.state.document.tree)) _ (record { reason = spot.reason; at = spot.at })
    c.refuse.result c.refuse.ensures.answers
