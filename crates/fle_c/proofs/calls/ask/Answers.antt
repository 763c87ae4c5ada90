-- What a client asks for is told, with the random bytes that the command wants.
use Rattle.std.proofs.Common.{[]}
use Rattle.bson_tree.specs.Tree.{Items}
use Rattle.fle_c.specs.Blocks.{handed_seen}
use Rattle.fle_c.specs.Calls.{AsksAs, document_limit}
use Rattle.fle_c.proofs.Judged.{judged}
use Rattle.fle_c.proofs.Wanted.{asked_few}
use Rattle.fle_c.proofs.calls.ask.Goals as goal

pub tell_asked-requires : goal.tell_asked-requires
tell_asked-requires c =
    let none = handed_seen [] 0 in
    record {
      few = asked_few c.args.client.now c.args.db.now c.in-Ok.command.tree c.args.command.now none
          c.keys_wanted-asked.result c.if-command-gt-DOCUMENT_LIMIT.false c.in-Ok.ensures.found.1
          (c.keys_wanted-asked.ensures.asked none);
    }

pub returns-in-Ok : goal.returns-in-Ok
returns-in-Ok c =
    let none = handed_seen [] 0 in
    let out = c.args.out.now in
    record {
      asked = judged document_limit
          (λ (d : Items). AsksAs c.args.db.now c.args.client.now d out c.tell_asked.new.out c.tell_asked.result)
          c.args.command.now out c.tell_asked.new.out c.tell_asked.result c.in-Ok.command.tree
          c.if-command-gt-DOCUMENT_LIMIT.false c.in-Ok.ensures.exact
          (record {
            asked = c.keys_wanted-asked.result;
            replied = c.keys_wanted-asked.ensures.asked none;
            shown = c.tell_asked.ensures.shows;
          });
    }
