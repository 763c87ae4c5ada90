-- The data key of the next need is put behind those before, or it isn't to be had; the cache keeps its master key.
use Rattle.std.proofs.Common.{◌∙◌, refl}
use Rattle.context_machine.specs.Needs.{needs_seen}
use Rattle.context_machine.specs.Rings.{finder}
use Rattle.context_machine.proofs.Tables.{next_none, next_put, of_cached}
use Rattle.context_machine.proofs.vault_keys.open_found.Goals as goal

pub loop-n-preserved : goal.loop-n-preserved
loop-n-preserved g c =
    let keys = c.args.keys.now in
    let inv = c.loop-n.invariant in
    record {
      master = c.put_cached.ensures.master ∙ inv.master;
      left = next_put (finder keys c.args.cache.now.master) (needs_seen c.args.needs.now) c.args.needs.now
          refl c.loop-n.n-index _ c.loop-n-test.true _
          (of_cached keys _ c.args.cache.now.master _ _ inv.master c.key_by-key.ensures.found)
          c.loop-n.table c.put_cached.new.table _ c.in-Ok.ensures.put inv.left;
    }

pub returns-in-Err-clause-opened : goal.returns-in-Err-clause-opened
returns-in-Err-clause-opened g c =
    let keys = c.args.keys.now in
    let inv = c.loop-n.invariant in
    next_none (finder keys c.args.cache.now.master) (needs_seen c.args.needs.now) c.args.needs.now
    refl c.loop-n.n-index _ c.loop-n-test.true _
    (of_cached keys _ c.args.cache.now.master _ _ inv.master c.key_by-key.ensures.found)
    c.loop-n.table _ c.in-Err.stop c.in-Err.ensures.put inv.left
