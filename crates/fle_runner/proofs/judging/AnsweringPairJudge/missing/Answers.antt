-- The reason of a missing reply is the verb's.
use Rattle.context_machine.specs.Rings.{finder}
use Rattle.fle_runner.proofs.Pairings.{missing_is}
use Rattle.fle_runner.proofs.judging.AnsweringPairJudge.missing.Goals as goal

pub returns : goal.returns
returns g c =
    let engine = c.args.self.now.engine in
    record {
      missing = missing_is (finder engine.opener.keys engine.opener.cache.master) engine.marker.infos
          engine.marker.db.items;
    }
