-- The info that is found has the name of the collection, so it is kept.
use Rattle.std.proofs.Common.{◌∙◌}
use Rattle.fle_engine.proofs.Starts.{with_found}
use Rattle.fle_engine.proofs.starting.with_info.Goals as goal

pub returns-in-Some : goal.returns-in-Some
returns-in-Some c = record {
  info = c.feed.ensures.fed
      ∙ with_found c.args.infos.now c.args.state c.in-Some.info.now c.collection.result.now c.requires.none
      c.collection.ensures.collection c.in-Some.ensures.named;
}
