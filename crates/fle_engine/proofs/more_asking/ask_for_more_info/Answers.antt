-- What is said of a command's fields says which info it needs.
use Rattle.std.proofs.Common.{◌≡◌, rules}
use Rattle.bson_tree.specs.Spelling.{doc_bytes}
use Rattle.command_marker.specs.Commands.{collection_in}
use Rattle.context_machine.specs.Asks.{collection_filter}
use Rattle.fle_engine.specs.More.{more_info_ruling}
use Rattle.fle_engine.proofs.MoreAsked.{asking_info, passing_info, refused_info}
use Rattle.fle_engine.proofs.more_asking.ask_for_more_info.Goals as goal

pub returns-in-Ok-Pass : goal.returns-in-Ok-Pass
returns-in-Ok-Pass c =
    let begun = rw c.in-Ok-Pass.field-0-is at c.in-Ok-Pass.ensures.begun in
    record {
      answers = λ e. passing_info c.args.db.now c.args.command.now _ c.new.result e c.requires.whole begun
          c.new.ensures.items;
    }

pub returns-in-Ok : goal.returns-in-Ok
returns-in-Ok c =
    let begun = rw c.in-Ok-Ask.field-0-is at c.in-Ok-Ask.ensures.begun in
    let state = c.in-Ok-Ask.state in
    let bytes = c.in-Ok.bytes in
    let filter : bytes.items ≡ doc_bytes (collection_filter (collection_in state.command.tree)) = search rules in
    record {
      answers = λ e. asking_info c.args.db.now c.args.command.now state bytes e c.requires.whole begun filter;
    }

pub returns-in-Err : goal.returns-in-Err
returns-in-Err c =
    let command = c.args.command.now in
    record {
      answers = λ e. c.refuse_fault.ensures.answers (more_info_ruling c.args.db.now command.tree) e
          (refused_info c.args.db.now command c.in-Err.fault c.requires.whole c.in-Err.ensures.begun);
    }
