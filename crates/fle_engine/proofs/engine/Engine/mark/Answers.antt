-- The database is another, or the command comes to its reply.
use Rattle.fle_engine.specs.Replies.{mark_ruling}
use Rattle.fle_engine.proofs.Sent.{sent_away, sent_home}
use Rattle.fle_engine.proofs.engine.Engine.mark.Goals as goal

pub returns-then-not-is_own : goal.returns-then-not-is_own
returns-then-not-is_own c =
    let m = c.args.self.now.marker in
    let tree = c.args.command.now.tree in
    record {
      answers = λ e. sent_away m.db.items c.args.db.now (mark_ruling m.infos m.db.items tree) tree e c.refuse.result
          c.is_own.result c.is_own.ensures.own c.if-not-is_own.true (c.refuse.ensures.answers e);
    }

pub returns : goal.returns
returns c =
    let m = c.args.self.now.marker in
    let tree = c.args.command.now.tree in
    record {
      answers = λ e. sent_home m.db.items c.args.db.now (mark_ruling m.infos m.db.items tree) tree e c.mark.result
          c.is_own.result c.is_own.ensures.own c.if-not-is_own.false (c.mark.ensures.answers e);
    }
