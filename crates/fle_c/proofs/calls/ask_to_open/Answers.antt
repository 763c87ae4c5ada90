-- What a vault is asked for is told.
use Rattle.std.proofs.Common.{[]}
use Rattle.bson_tree.specs.Tree.{Items}
use Rattle.fle_outside.specs.Limits.{output_limit}
use Rattle.fle_c.specs.Blocks.{handed_seen}
use Rattle.fle_c.specs.Calls.{AnswersAs, wanting_to_open}
use Rattle.fle_c.proofs.Judged.{judged}
use Rattle.fle_c.proofs.calls.ask_to_open.Goals as goal

pub returns-in-Ok : goal.returns-in-Ok
returns-in-Ok c =
    let none = handed_seen [] 0 in
    let out = c.args.out.now in
    record {
      asked = judged output_limit
          (λ (d : Items). AnswersAs (wanting_to_open c.args.keys.now d) d none out c.tell.new.out c.tell.result)
          c.args.document.now out c.tell.new.out c.tell.result c.in-Ok.document.tree
          c.if-document-gt-OPENED_LIMIT.false c.in-Ok.ensures.exact
          (record {
            answer = c.ask_for_document-answer.result;
            left = none;
            is = c.ask_for_document-answer.ensures.answers none;
            shown = c.tell.ensures.shows;
          });
    }
