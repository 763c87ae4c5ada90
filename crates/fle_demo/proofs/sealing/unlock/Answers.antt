-- The key handed in is the only one of a vault.
use Rattle.std.proofs.Common.{[], ◌∷◌}
use Rattle.context_machine.specs.Rings.{ring}
use Rattle.fle_demo.proofs.Steps.{ready_under, same_ids, want_only}
use Rattle.fle_demo.proofs.sealing.unlock.Goals as goal

pub returns-in-Ok-clause-ready : goal.returns-in-Ok-clause-ready
returns-in-Ok-clause-ready g c = λ info is.
    ready_under c.kept_answer.ensures.answer c.kept_rings.ensures.opened c.args.waits c.feed.new.self c.args.key.now
    c.args.cache.now.master info c.in-Ok.ready
    (same_ids (ring (c.args.key.now ∷ []) c.args.cache.now.master) c.args.waits info c.requires.keyed.0 is
    c.requires.keyed.1 c.requires.keyed.2)
    c.requires.fresh c.feed.ensures.fed is c.in-Ok.ensures.ready c.in-Ok.ensures.opened

pub unstopped-requires : goal.unstopped-requires
unstopped-requires g c =
    record {
      want = want_only c.kept_answer.ensures.answer c.kept_rings.ensures.keyless c.args.waits c.feed.new.self
          c.args.key.now c.args.cache.now.master c.requires.keyed.0 c.in-Err.stop c.requires.fresh c.feed.ensures.fed
          c.requires.keyed.1 c.requires.keyed.2 c.in-Err.ensures.stop;
    }
