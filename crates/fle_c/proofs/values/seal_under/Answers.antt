-- What an opener answers is told, with the block that the value takes.
use Rattle.std.proofs.Common.{◌≡◌, ◌∙◌, ℕ, ap, length, subst}
use Rattle.bson_tree.specs.Tree.{Items}
use Rattle.context_machine.specs.Rings.{finder}
use Rattle.fle_outside.specs.Seen.{EntropySeen}
use Rattle.payload6.specs.Needs.{need_seen}
use Rattle.fle_engine.specs.Answers.{AnswerIs}
use Rattle.fle_engine.specs.Explicit.{value_ruling}
use Rattle.fle_c.specs.Blocks.{handed_seen}
use Rattle.fle_c.specs.Calls.{AnswersAs, document_limit, valuing_of}
use Rattle.fle_c.specs.Telling.{Shows, random_of}
use Rattle.fle_c.proofs.Judged.{judged}
use Rattle.fle_c.proofs.Randoms.{counted, shown, value_few}
use Rattle.fle_c.proofs.values.seal_under.Goals as goal

pub random_of-random-requires : goal.random_of-random-requires
random_of-random-requires c =
    let opener = c.args.opener.now in
    let keys = finder opener.keys opener.cache.master in
    let need = need_seen c.args.need in
    let tree = c.in-Ok.document.tree in
    record {
      counted = counted (value_ruling keys need c.args.algorithm tree) tree _ _ c.seal_value-answer.result
          (value_few keys need c.args.algorithm tree) c.seal_value-answer.ensures.answers;
    }

pub returns-in-Ok-clause-sealed : goal.returns-in-Ok-clause-sealed
returns-in-Ok-clause-sealed c =
    let opener = c.args.opener.now in
    let keys = finder opener.keys opener.cache.master in
    let need = need_seen c.args.need in
    let tree = c.in-Ok.document.tree in
    let v = value_ruling keys need c.args.algorithm tree in
    let answer = c.seal_value-answer.result in
    let blocks = c.args.blocks.now in
    let bytes = c.seal_value-answer.new.entropy.bytes.now in
    let faults = c.seal_value-answer.new.entropy.faults in
    let is = subst (λ (e : EntropySeen). AnswerIs v tree e (handed_seen bytes faults) answer) c.new-entropy.ensures.seen
    c.seal_value-answer.ensures.answers in
    let random : c.random_of-random.result ≡ random_of answer (length blocks) (length bytes) =
    c.random_of-random.ensures.random ∙ ap (random_of answer (length blocks)) c.left.ensures.left in
    judged document_limit
    (λ (d : Items). AnswersAs (valuing_of opener need c.args.algorithm d) d (handed_seen blocks 0) c.args.out.now
    c.tell.new.out c.tell.result)
    c.args.document.now c.args.out.now c.tell.new.out c.tell.result tree c.if-document-gt-DOCUMENT_LIMIT.false
    c.in-Ok.ensures.exact
    (record {
      answer = answer;
      left = handed_seen bytes faults;
      is = is;
      shown = shown v tree blocks bytes faults answer c.args.out.now c.tell.new.out c.tell.result is
          (subst (λ (n : ℕ). Shows n answer c.args.out.now c.tell.new.out c.tell.result) random c.tell.ensures.shows);
    })
