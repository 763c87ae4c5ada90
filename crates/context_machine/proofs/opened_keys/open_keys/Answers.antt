-- The data key of the next need is put behind those before, or it isn't to be had.
use Rattle.context_machine.specs.Rings.{finder}
use Rattle.context_machine.proofs.Tables.{is_asked, next_none, next_put, of_found}
use Rattle.context_machine.proofs.opened_keys.open_keys.Goals as goal

pub key_by-key-requires : goal.key_by-key-requires
key_by-key-requires g c = record {
  needed = is_asked c.needs-n-items.result.now c.args.wanted.now.needs c.loop-n.n-index _ c.loop-n-test.true
      c.needs-n-items.ensures.needs;
}

pub loop-n-preserved : goal.loop-n-preserved
loop-n-preserved g c = record {
  left = next_put (finder c.args.wanted.now.kept c.args.master.now) c.args.wanted.now.needs c.needs-n-items.result.now
      c.needs-n-items.ensures.needs c.loop-n.n-index _ c.loop-n-test.true _
      (of_found c.args.wanted.now.kept c.args.master.now _ _ c.key_by-key.ensures.found)
      c.loop-n.table c.put_opened.new.table _ c.in-Ok.ensures.put c.loop-n.invariant.left;
}

pub returns-in-Err : goal.returns-in-Err
returns-in-Err g c = record {
  opened = next_none (finder c.args.wanted.now.kept c.args.master.now) c.args.wanted.now.needs
      c.needs-n-items.result.now c.needs-n-items.ensures.needs c.loop-n.n-index _ c.loop-n-test.true _
      (of_found c.args.wanted.now.kept c.args.master.now _ _ c.key_by-key.ensures.found)
      c.loop-n.table _ c.in-Err.stop c.in-Err.ensures.put c.loop-n.invariant.left;
}
