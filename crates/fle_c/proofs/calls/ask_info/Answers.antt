-- What a client answers is told.
use Rattle.std.proofs.Common.{[]}
use Rattle.bson_tree.specs.Tree.{Items}
use Rattle.fle_c.specs.Blocks.{handed_seen}
use Rattle.fle_c.specs.Calls.{AnswersAs, document_limit, info_wanting_of}
use Rattle.fle_c.proofs.Judged.{judged}
use Rattle.fle_c.proofs.calls.ask_info.Goals as goal

pub returns-in-Ok : goal.returns-in-Ok
returns-in-Ok c =
    let none = handed_seen [] 0 in
    let out = c.args.out.now in
    record {
      asked = judged document_limit
          (λ (d : Items). AnswersAs
          (info_wanting_of c.args.db.now c.args.client.now.commands c.args.client.now.rules d) d none out
          c.tell.new.out c.tell.result)
          c.args.command.now out c.tell.new.out c.tell.result c.in-Ok.command.tree
          c.if-command-gt-DOCUMENT_LIMIT.false c.in-Ok.ensures.exact
          (record {
            answer = c.info_wanted-answer.result;
            left = none;
            is = c.info_wanted-answer.ensures.asked none;
            shown = c.tell.ensures.shows;
          });
    }
