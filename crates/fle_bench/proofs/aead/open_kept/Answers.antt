use Rattle.fle_aead.proofs.SealedForm.{sealed-determines}
use Rattle.fle_bench.proofs.aead.open_kept.Goals as goal

pub loop-turn-preserved : goal.loop-turn-preserved
loop-turn-preserved c = λ _ iv p s.
    let outcome = c.open_into-outcome.ensures in
    let opens = rw c.new-key.ensures.bytes at outcome.opens in
    let found = rw (opens iv p s, c.new-key.ensures.bytes) at outcome.ok in
    (sealed-determines _ _ _ _ _ _ _ found s).1
