-- The opened document is what the verdict says.
use Rattle.context_machine.specs.Rings.{ring}
use Rattle.fle_engine.specs.Opening.{open_ruling}
use Rattle.fle_runner.proofs.Judgements.{opens}
use Rattle.fle_runner.proofs.judging.OpeningJudge.judge.Goals as goal

pub returns-clause-judged : goal.returns-clause-judged
returns-clause-judged g c =
    let keys = ring c.args.self.now.opener.keys c.args.self.now.opener.cache.master in
    let tree = c.args.document.now.tree in
    let seen = g.N.Entropy.seen c.args._entropy.now in
    opens keys tree seen seen c.judgement.result
    (c.judgement.ensures.judged (open_ruling keys tree) tree seen seen (c.open.ensures.answers seen))
