-- What the states answer says what a command starts as.
use Rattle.fle_engine.proofs.MoreRulings.{marking_starts, refused_starts, view_starts}
use Rattle.fle_engine.proofs.starting.start_more.Goals as goal

pub returns-in-Ok : goal.returns-in-Ok
returns-in-Ok c =
    let begun = rw c.in-Ok-Ask.field-0-is at c.in-Ok-Ask.ensures.begun in
    record {
      starts = marking_starts c.args.db.now c.args.infos.now c.args.command.now c.in-Ok-Ask.state c.with_info.result
          c.in-Ok.state c.requires.whole begun c.with_info.ensures.info c.in-Ok.ensures.done;
    }

pub returns-in-Err-done : goal.returns-in-Err-done
returns-in-Err-done c =
    let begun = rw c.in-Ok-Ask.field-0-is at c.in-Ok-Ask.ensures.begun in
    record {
      starts = view_starts c.args.db.now c.args.infos.now c.args.command.now c.in-Ok-Ask.state c.with_info.result
          c.in-Err-done.fault c.requires.whole begun c.with_info.ensures.info c.in-Err-done.ensures.done;
    }

pub returns-in-Err : goal.returns-in-Err
returns-in-Err c = record {
  starts = refused_starts c.args.db.now c.args.infos.now c.args.command.now c.in-Err.fault c.requires.whole
      c.in-Err.ensures.begun;
}
