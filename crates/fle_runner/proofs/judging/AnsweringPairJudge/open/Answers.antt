-- A command is refused by itself as the verb says.
use Rattle.context_machine.specs.Rings.{finder}
use Rattle.encrypt_schema.specs.Commands.Targets.{verdict}
use Rattle.fle_runner.proofs.Pairings.{opens_is}
use Rattle.fle_runner.proofs.judging.AnsweringPairJudge.open.Goals as goal

pub returns : goal.returns
returns g c =
    let engine = c.args.self.now.engine in
    let d = c.args.document.now.tree in
    let infos = engine.marker.infos in
    let db = engine.marker.db.items in
    record {
      checked = opens_is (finder engine.opener.keys engine.opener.cache.master) infos db d c.opening_check.result
          (c.opening_check.ensures.checks (verdict db infos 0 d) d c.accept.ensures.accepts);
    }
