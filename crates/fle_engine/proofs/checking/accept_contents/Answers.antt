-- Its contents are refused, at the place of a value of it.
use Rattle.std.proofs.Common.{Err, subst}
use Rattle.bson_codec.specs.Borrowed.{At}
use Rattle.encrypt_schema.specs.Commands.Targets.{rows_in}
use Rattle.encrypt_schema.specs.Commands.Visits.{content_verdict}
use Rattle.fle_engine.specs.Checking.{AcceptsAs}
use Rattle.fle_engine.proofs.checking.accept_contents.Goals as goal

pub returns-in-Err : goal.returns-in-Err
returns-in-Err c =
    let state = c.args.state.now in
    let contents = content_verdict (rows_in state.info) state.command.start state.command.tree in
    record {
      accepts = subst (λ (d : At). AcceptsAs contents d.tree (Err c.decline.result)) c.command.ensures.command
          (c.decline.ensures.declines contents c.in-Err.ensures.refused);
    }
