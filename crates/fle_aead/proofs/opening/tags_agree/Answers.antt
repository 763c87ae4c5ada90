use Rattle.std.proofs.Common.{◌≡◌, length, get_or, ap, arith, rules}
use Rattle.std.proofs.lemmas.Bool.{eq-eqb, eqb-true}
use Rattle.fle_aead.proofs.Agreeing.{agree_all, agree_next}
use Rattle.fle_aead.proofs.opening.tags_agree.Goals as goal

pub loop-i-preserved : goal.loop-i-preserved
loop-i-preserved c = record {
  agree = agree_next c.args.found.now c.args.computed.now c.loop-i.i c.loop-i.differences c.loop-i.invariant.agree;
}

pub returns : goal.returns
returns c = (
  λ t.
      let found : length c.args.found.now ≡ 32 = search rules in
      let computed : length c.args.computed.now ≡ 32 = search rules in
      agree_all c.args.found.now c.args.computed.now 32 c.loop-i.i found computed (omega arith)
      (c.loop-i.invariant.agree.0 (eqb-true _ _ t)),
  λ e. eq-eqb _ _ (c.loop-i.invariant.agree.1 (λ k below. ap (λ z. get_or z k 0) e)),
)
