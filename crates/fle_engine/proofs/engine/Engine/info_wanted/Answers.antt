-- The database is another, or the command comes to the filter of its infos.
use Rattle.std.proofs.Common.{List, subst, ℕ}
use Rattle.fle_engine.specs.Answers.{AnswerIs}
use Rattle.fle_engine.specs.Asked.{info_ruling}
use Rattle.fle_engine.proofs.Sent.{sent_away, sent_home}
use Rattle.fle_engine.proofs.engine.Engine.info_wanted.Goals as goal

pub returns-then-not-is_own : goal.returns-then-not-is_own
returns-then-not-is_own c =
    let db = c.args.self.now.marker.db.items in
    let tree = c.args.command.now.tree in
    record {
      answers = λ e. sent_away db c.args.db.now (info_ruling db tree) tree e c.refuse.result c.is_own.result
          c.is_own.ensures.own c.if-not-is_own.true (c.refuse.ensures.answers e);
    }

pub returns : goal.returns
returns c =
    let db = c.args.self.now.marker.db.items in
    let tree = c.args.command.now.tree in
    record {
      answers = λ e. sent_home db c.args.db.now (info_ruling db tree) tree e c.ask_for_info.result c.is_own.result
          c.is_own.ensures.own c.if-not-is_own.false
          (subst (λ (own : List ℕ). AnswerIs (info_ruling own tree) tree e e c.ask_for_info.result)
          c.deref.ensures.value (c.ask_for_info.ensures.answers e));
    }
