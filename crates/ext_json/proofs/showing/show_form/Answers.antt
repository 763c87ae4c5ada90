use Rattle.std.proofs.Common.{Bool, sym, ap, ◌∙◌}
use Rattle.ext_json.specs.BadText.{offset_if}
use Rattle.ext_json.proofs.showing.show_form.Goals as goal

pub returns-in-Ok : goal.returns-in-Ok
returns-in-Ok g c B D other = (
  ap (λ (bad : Bool). offset_if bad c.args.at)
      (sym (c.is_bad_form.ensures B c.args.at other) ∙ c.if-is_bad_form.false),
  c.in-Ok.ensures.wrote D other,
)
