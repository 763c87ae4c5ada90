-- The reply is what the command's contents come to, or what stops it.
use Rattle.std.proofs.Common.{subst}
use Rattle.bson_codec.specs.Borrowed.{At}
use Rattle.encrypt_schema.specs.Commands.Targets.{rows_in}
use Rattle.fle_engine.specs.Answers.{AnswerIs}
use Rattle.fle_engine.specs.Replies.{replies}
use Rattle.fle_engine.specs.More.{more_contents}
use Rattle.fle_engine.proofs.MoreAnswers.{contents_replied, contents_told}
use Rattle.fle_engine.proofs.more.reply_contents.Goals as goal

pub returns-in-Ok : goal.returns-in-Ok
returns-in-Ok c = record {
  answers = λ e. contents_replied c.args.state.now c.in-Ok.bytes e c.requires.whole c.in-Ok.ensures.replies;
}

pub returns-in-Err : goal.returns-in-Err
returns-in-Err c =
    let state = c.args.state.now in
    let v = more_contents replies (rows_in state.info) state.command.tree in
    record {
      answers = λ e.
          subst (λ (d : At). AnswerIs v d.tree e e c.refuse_reply.result) c.command.ensures.command
          (c.refuse_reply.ensures.answers v e (contents_told state c.in-Err.stop c.requires.whole
          c.in-Err.ensures.replies));
    }
