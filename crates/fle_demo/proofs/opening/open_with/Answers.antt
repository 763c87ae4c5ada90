-- What stops the keys kept stops the only key of a vault.
use Rattle.std.proofs.Common.{[], ◌∷◌}
use Rattle.context_machine.specs.Rings.{ring}
use Rattle.fle_demo.proofs.Opened.{equal_under, fail_under}
use Rattle.fle_demo.proofs.opening.open_with.Goals as goal

pub returns-clause-equal : goal.returns-clause-equal
returns-clause-equal g c =
    c.unopened.ensures.equal (ring (c.args.key.now ∷ []) c.args.cache.now.master) c.args.wants.document
    c.args.bytes.now c.requires.shaped
    (fail_under c.kept_answer.ensures.answer c.kept_rings.ensures.keyless_ids c.args.wants c.feed.new.self
    c.args.key.now
    c.args.cache.now.master c.in-Err.stop c.requires.fresh c.feed.ensures.fed c.in-Err.ensures.refused)

pub returns-in-Ok-clause-equal : goal.returns-in-Ok-clause-equal
returns-in-Ok-clause-equal g c =
    equal_under c.kept_answer.ensures.answer c.kept_rings.ensures.opened_ids c.args.wants c.feed.new.self c.args.key.now
    c.args.cache.now.master c.in-Ok.ready c.args.bytes.now _ c.requires.fresh c.feed.ensures.fed
    c.in-Ok.ensures.ready c.in-Ok.ensures.opened c.is_opened.ensures.equal
