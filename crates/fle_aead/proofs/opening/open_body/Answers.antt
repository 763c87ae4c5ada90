use Rattle.std.proofs.Common.{◌≡◌, ◌-◌, ◌∙◌, Err, ap, sym, length, arith}
use Rattle.cbc_mode.specs.Cbc.{IsWholeBlocks}
use Rattle.fle_aead.proofs.SealedForm.{opened_body-parts}
use Rattle.fle_aead.proofs.opening.open_body.Goals as goal

pub returns-in-Ok-clause-plain : goal.returns-in-Ok-clause-plain
returns-in-Ok-clause-plain g c =
    opened_body-parts c.args.key.now c.args.body.now _ _ _ c.schedule.ensures
    (c.iv_in.ensures ∙ c.split_at.ensures.front) c.split_at.ensures.back
    ∙ c.in-Ok.ensures.plain

pub returns-in-Ok-clause-opened : goal.returns-in-Ok-clause-opened
returns-in-Ok-clause-opened g c =
    let parts = opened_body-parts c.args.key.now c.args.body.now _ _ _ c.schedule.ensures
    (c.iv_in.ensures ∙ c.split_at.ensures.front) c.split_at.ensures.back in
    let long : length c.split_at.result.1.now ≡ length c.args.body.now - 16 = omega arith in
    let whole : IsWholeBlocks (length c.split_at.result.1.now) =
    record {
      some = omega (arith, c.requires.whole.1, c.requires.whole.2);
      whole = omega (arith, c.requires.whole.2);
    } in
    rw long at (c.cbc_open_into.ensures.opened whole) ∙ sym parts

pub returns-in-Err-Padding-clause-wrong : goal.returns-in-Err-Padding-clause-wrong
returns-in-Err-Padding-clause-wrong g c = λ p is.
    let parts = opened_body-parts c.args.key.now c.args.body.now _ _ _ c.schedule.ensures
    (c.iv_in.ensures ∙ c.split_at.ensures.front) c.split_at.ensures.back in
    (c.in-Err-Padding.ensures.padding.0 (ap Err c.in-Err-Padding.field-0-is)).1 p (sym parts ∙ is)

pub returns-in-Err-Padding-clause-opened : goal.returns-in-Err-Padding-clause-opened
returns-in-Err-Padding-clause-opened g c =
    let parts = opened_body-parts c.args.key.now c.args.body.now _ _ _ c.schedule.ensures
    (c.iv_in.ensures ∙ c.split_at.ensures.front) c.split_at.ensures.back in
    let long : length c.split_at.result.1.now ≡ length c.args.body.now - 16 = omega arith in
    let whole : IsWholeBlocks (length c.split_at.result.1.now) =
    record {
      some = omega (arith, c.requires.whole.1, c.requires.whole.2);
      whole = omega (arith, c.requires.whole.2);
    } in
    rw long at (c.cbc_open_into.ensures.opened whole) ∙ sym parts
