use Rattle.std.proofs.Common.{◌∙◌, ap}
use Rattle.context_machine.specs.Kept.{Wants}
use Rattle.context_machine.proofs.Decrypting.{gathered}
use Rattle.context_machine.proofs.decrypt_need_keys.DecryptNeedKeys.begin.Goals as goal

pub invariant_of-result : goal.invariant_of-result
invariant_of-result c = (
  c.in-Ok.ensures.found,
  ap (λ (w : Wants). w.needs) c.in-Ok-wanted.ensures.wanted
      ∙ gathered c.args.document c.in-Ok.found c.new-needs.result c.tell_payloads.new.listener c.in-Ok.ensures.found
      c.new-needs.ensures.none c.in-Ok.ensures.told c.in-Ok-wanted.ensures.all,
)
