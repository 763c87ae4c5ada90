-- A reply is refused as the verb says.
use Rattle.context_machine.specs.Rings.{finder}
use Rattle.fle_engine.specs.Checking.{wrong_to}
use Rattle.fle_runner.proofs.Pairings.{answers_is, opened_is}
use Rattle.fle_runner.proofs.judging.AnsweringPairJudge.answer.Goals as goal

pub take-requires : goal.take-requires
take-requires g c =
    let engine = c.args.self.now.engine in
    record {
      whole = c.requires.whole;
      front = c.requires.front;
      accepted = opened_is (finder engine.opener.keys engine.opener.cache.master) engine.marker.infos
          engine.marker.db.items c.args.document.now.tree c.requires.opened;
    }

pub returns : goal.returns
returns g c =
    let engine = c.args.self.now.engine in
    let d = c.args.document.now.tree in
    let r = c.args.answer.now.tree in
    let infos = engine.marker.infos in
    record {
      checked = answers_is (finder engine.opener.keys engine.opener.cache.master) infos engine.marker.db.items d r
          c.answer_check.result (c.answer_check.ensures.checks (wrong_to infos d r) r c.take.ensures.takes);
    }
