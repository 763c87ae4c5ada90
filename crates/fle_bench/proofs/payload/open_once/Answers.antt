use Rattle.std.proofs.Common.{◌≡◌, ◌∙◌, ℕ, length, Err, ap, rules, subst}
use Rattle.payload6.specs.Opening.{IsOriginal}
use Rattle.fle_bench.proofs.Payloads.{has-kind, has-length, parted}
use Rattle.fle_bench.proofs.payload.open_once.Goals as goal

pub returns-in-Ok : goal.returns-in-Ok
returns-in-Ok c = record {
  begins = λ kind id type iv p s known o.
      let sixteen : length c.in-Ok.parts.key_id ≡ 16 = search rules in
      let here = parted kind c.in-Ok.parts.kind id c.in-Ok.parts.key_id c.args.key.now type c.in-Ok.parts.tag iv p
      c.in-Ok.parts.head.now
      c.in-Ok.parts.sealed.now c.args.payload.now sixteen c.in-Ok.parts.front c.in-Ok.ensures.joined s in
      (c.open_payload_into-outcome.ensures.opens iv p here.0 (subst (λ (t : ℕ). IsOriginal 100 t p) here.1 o)).1;
}

pub returns-in-Err-Kind : goal.returns-in-Err-Kind
returns-in-Err-Kind c = record {
  begins = λ kind id type iv p s known o.
      absurd (c.parts.ensures.kind.0 (c.in-Err-Kind.is ∙ ap Err c.in-Err-Kind.field-0-is)
      (has-kind kind id _ type iv p _ s known));
}

pub returns-in-Err-Short : goal.returns-in-Err-Short
returns-in-Err-Short c = record {
  begins = λ kind id type iv p s known o.
      absurd ((c.parts.ensures.short.0 (c.in-Err-Short.is ∙ ap Err c.in-Err-Short.field-0-is)).1
      (has-length kind id _ type iv p _ s));
}
