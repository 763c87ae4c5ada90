-- The sealed command is what the verb says.
use Rattle.context_machine.specs.Rings.{finder}
use Rattle.fle_engine.specs.Sealing.{seal_ruling}
use Rattle.fle_runner.proofs.Pairings.{comes_is}
use Rattle.fle_runner.proofs.judging.AnsweringPairJudge.judge.Goals as goal

pub returns-clause-judged : goal.returns-clause-judged
returns-clause-judged g c =
    let engine = c.args.self.now.engine in
    let keys = finder engine.opener.keys engine.opener.cache.master in
    let tree = c.args.document.now.tree in
    let before = g.N.Entropy.seen c.args.entropy.now in
    let after = g.N.Entropy.seen c.seal.new.entropy in
    comes_is keys engine.marker.infos engine.marker.db.items tree before after c.judgement.result
    (c.judgement.ensures.judged (seal_ruling keys engine.marker.infos engine.marker.db.items tree) tree before after
    c.seal.ensures.answers)
