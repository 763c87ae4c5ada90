-- The data key of the next need is put behind those before, or it isn't to be had; the cache keeps its master key.
use Rattle.std.proofs.Common.{◌∙◌}
use Rattle.context_machine.specs.Rings.{finder}
use Rattle.context_machine.proofs.Tables.{is_asked, next_none, next_put, of_cached}
use Rattle.context_machine.proofs.opened_keys.open_keys_cached.Goals as goal

pub key_by-key-requires : goal.key_by-key-requires
key_by-key-requires g c = record {
  needed = is_asked c.needs-n-items.result.now c.args.wanted.now.needs c.loop-n.n-index _ c.loop-n-test.true
      c.needs-n-items.ensures.needs;
}

pub loop-n-preserved : goal.loop-n-preserved
loop-n-preserved g c =
    let kept = c.args.wanted.now.kept in
    let inv = c.loop-n.invariant in
    record {
      master = c.put_cached.ensures.master ∙ inv.master;
      left = next_put (finder kept c.args.cache.now.master) c.args.wanted.now.needs c.needs-n-items.result.now
          c.needs-n-items.ensures.needs c.loop-n.n-index _ c.loop-n-test.true _
          (of_cached kept _ c.args.cache.now.master _ _ inv.master c.key_by-key.ensures.found)
          c.loop-n.table c.put_cached.new.table _ c.in-Ok.ensures.put inv.left;
    }

pub returns-in-Err-clause-opened : goal.returns-in-Err-clause-opened
returns-in-Err-clause-opened g c =
    let kept = c.args.wanted.now.kept in
    let inv = c.loop-n.invariant in
    next_none (finder kept c.args.cache.now.master) c.args.wanted.now.needs c.needs-n-items.result.now
    c.needs-n-items.ensures.needs c.loop-n.n-index _ c.loop-n-test.true _
    (of_cached kept _ c.args.cache.now.master _ _ inv.master c.key_by-key.ensures.found)
    c.loop-n.table _ c.in-Err.stop c.in-Err.ensures.put inv.left
