use Rattle.std.proofs.Common.{◌∙◌}
use Rattle.doc_rewrite.proofs.Picks.{picked_is}
use Rattle.doc_rewrite.proofs.found.Found.get.Goals as goal

pub returns : goal.returns
returns c = record {
  payload = picked_is c.args.i c.tell_payloads.new.listener c.in-Ok.field-0 c.args.self.now c.in-Ok.ensures.told
      (c.in-Ok.ensures.found.all ∙ c.self.view_is);
}
