-- Where a key is needed, the filter is that of all.
use Rattle.std.proofs.Common.{◌∙◌, arith, sym}
use Rattle.context_machine.proofs.Unmet.{filter_made, filter_none}
use Rattle.context_machine.proofs.vault_keys.filter_for.Goals as goal

pub returns-then-needs-eq0 : goal.returns-then-needs-eq0
returns-then-needs-eq0 c = record {
  filter = filter_none c.args.needs.now c.new.result.items c.if-needs-eq0.true c.new.ensures.items;
}

pub returns : goal.returns
returns c = record {
  filter = c.in_ok-out.ensures.filter ∙ sym (filter_made c.args.needs.now (omega (arith, c.if-needs-eq0.false)));
}
