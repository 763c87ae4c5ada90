-- What a client replies is told.
use Rattle.std.proofs.Common.{[], ℕ, List, Result}
use Rattle.bson_tree.specs.Tree.{Items}
use Rattle.fle_client.specs.Clients.{MarksAs}
use Rattle.fle_c.specs.Blocks.{handed_seen}
use Rattle.fle_c.specs.Calls.{TellsReply, document_limit}
use Rattle.fle_c.proofs.Judged.{judged}
use Rattle.fle_c.proofs.calls.mark.Goals as goal

pub returns-in-Ok : goal.returns-in-Ok
returns-in-Ok c =
    let none = handed_seen [] 0 in
    let out = c.args.out.now in
    record {
      marked = judged document_limit
          (λ (d : Items). TellsReply (MarksAs c.args.client.now.commands c.args.client.now.rules c.args.db.now d none)
          0 out c.tell_reply.new.out c.tell_reply.result)
          c.args.command.now out c.tell_reply.new.out c.tell_reply.result c.in-Ok.command.tree
          c.if-command-gt-DOCUMENT_LIMIT.false c.in-Ok.ensures.exact
          (record {
            reply = c.mark-reply.result;
            replied = c.mark-reply.ensures.marked none;
            shown = c.tell_reply.ensures.shows;
          });
    }
