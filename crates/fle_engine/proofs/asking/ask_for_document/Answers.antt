-- The keys of a document's payloads, or the first that is none.
use Rattle.std.proofs.Common.{◌∙◌, ap, subst}
use Rattle.bson_codec.specs.Borrowed.{At}
use Rattle.context_machine.specs.Decrypting.{IsMisshapen}
use Rattle.fle_engine.specs.Answers.{AnswerIs}
use Rattle.fle_engine.specs.Asked.{payloads_ruling}
use Rattle.fle_engine.proofs.Filters.{misshapen_asked, payloads_asked}
use Rattle.fle_engine.proofs.asking.ask_for_document.Goals as goal

pub returns-in-Ok : goal.returns-in-Ok
returns-in-Ok c =
    let keys = c.args.keys.now in
    record {
      answers = λ e.
          subst (λ (x : At). AnswerIs (payloads_ruling keys x.tree) x.tree e e c.ask_ids.result) c.again.ensures.same
          (payloads_asked keys c.again.result c.in-Ok.state c.ask_ids.result e
          (ap (λ (x : At). x.start) c.again.ensures.same ∙ c.requires.whole)
          c.in-Ok.ensures.begun c.in-Ok.ensures.shaped (c.ask_ids.ensures.answers c.again.result.tree e));
    }

pub returns-in-Err : goal.returns-in-Err
returns-in-Err c =
    let keys = c.args.keys.now in
    record {
      answers = λ e.
          c.refuse_fault.ensures.answers (payloads_ruling keys c.args.document.now.tree) e
          (misshapen_asked keys c.args.document.now c.in-Err.fault c.requires.whole
          (subst (λ (x : At). IsMisshapen x c.in-Err.fault) c.again.ensures.same c.in-Err.ensures.refused));
    }
