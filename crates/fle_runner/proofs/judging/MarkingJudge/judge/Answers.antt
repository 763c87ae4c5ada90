-- The marking reply is what the verdict says.
use Rattle.fle_engine.specs.Replies.{mark_ruling}
use Rattle.fle_runner.proofs.Judgements.{marks}
use Rattle.fle_runner.proofs.judging.MarkingJudge.judge.Goals as goal

pub returns-clause-judged : goal.returns-clause-judged
returns-clause-judged g c =
    let m = c.args.self.now.marker in
    let tree = c.args.document.now.tree in
    let seen = g.N.Entropy.seen c.args._entropy.now in
    marks m.infos m.db.items tree seen seen c.judgement.result
    (c.judgement.ensures.judged (mark_ruling m.infos m.db.items tree) tree seen seen (c.mark.ensures.answers seen))
