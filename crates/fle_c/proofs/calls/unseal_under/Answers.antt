-- What an opener answers is told, and has room where the document has.
use Rattle.std.proofs.Common.{[], ap, arith, length}
use Rattle.bson_tree.specs.Spelling.{doc_bytes}
use Rattle.bson_tree.specs.Tree.{Items}
use Rattle.fle_outside.specs.Limits.{output_limit}
use Rattle.fle_c.specs.Blocks.{handed_seen}
use Rattle.fle_c.specs.Calls.{AnswersAs, opening_of}
use Rattle.fle_c.proofs.Judged.{judged}
use Rattle.fle_c.proofs.Roomy.{roomy}
use Rattle.fle_c.proofs.calls.unseal_under.Goals as goal

pub returns-in-Ok-clause-opened : goal.returns-in-Ok-clause-opened
returns-in-Ok-clause-opened c =
    let none = handed_seen [] 0 in
    let out = c.args.out.now in
    judged output_limit
    (λ (d : Items). AnswersAs (opening_of c.args.opener.now d) d none out c.tell.new.out c.tell.result)
    c.args.document.now out c.tell.new.out c.tell.result c.in-Ok.document.tree c.if-document-gt-OPENED_LIMIT.false
    c.in-Ok.ensures.exact
    (record {
      answer = c.open-answer.result;
      left = none;
      is = c.open-answer.ensures.answers none;
      shown = c.tell.ensures.shows;
    })

pub returns-in-Ok-clause-room : goal.returns-in-Ok-clause-room
returns-in-Ok-clause-room c = λ enough.
    roomy (length (doc_bytes c.in-Ok.document.tree)) c.open-answer.result 0 c.args.out.now c.tell.new.out c.tell.result
    c.open-answer.ensures.short (omega (arith, enough, ap length c.in-Ok.ensures.found.1)) c.tell.ensures.shows
