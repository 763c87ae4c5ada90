use Rattle.std.proofs.Common.{◌∙◌, List, ℕ, ap, rules}
use Rattle.fle_vectors.specs.declared.data_key.TheConstants.{DATA_KEY}
use Rattle.fle_bench.specs.declared.payload.TheConstants.{KEY_ID, IV}
use Rattle.fle_bench.specs.Payload.{payload_of}
use Rattle.fle_bench.specs.Turns.{last}
use Rattle.fle_bench.proofs.Payloads.{payload-is}
use Rattle.fle_bench.proofs.Turns.{first-fed, repeated-next}
use Rattle.fle_bench.proofs.payload.seal.Goals as goal

pub loop-turn-init : goal.loop-turn-init
loop-turn-init c = record { fed = first-fed _ KEY_ID 16 (search rules); out = search rules }

pub loop-turn-preserved : goal.loop-turn-preserved
loop-turn-preserved c =
    let sealed = rw (c.loop-turn.invariant.fed, c.new-key.ensures.bytes) at c.seal_once.ensures in
    let out = repeated-next (λ (b : List ℕ). payload_of c.args.algorithm DATA_KEY (last 16 b) 5 IV c.args.plain.now)
    KEY_ID _ c.loop-turn._turn
    (payload-is _ _ _ _ _ _ _ sealed) in
    record { fed = c.last_block-id.ensures.last ∙ ap (last 16) out; out = λ _. out }
