-- What a vault is asked for is told.
use Rattle.std.proofs.Common.{[]}
use Rattle.bson_tree.specs.Tree.{no_items}
use Rattle.fle_c.specs.Blocks.{handed_seen}
use Rattle.fle_c.proofs.values.ask_under.Goals as goal

pub returns : goal.returns
returns c =
    let none = handed_seen [] 0 in
    record {
      asked = record {
        answer = c.ask_for_key-answer.result;
        left = none;
        is = c.ask_for_key-answer.ensures.answers no_items none;
        shown = c.tell.ensures.shows;
      };
    }
