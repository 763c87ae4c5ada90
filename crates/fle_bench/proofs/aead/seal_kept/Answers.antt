use Rattle.std.proofs.Common.{◌∙◌, List, ℕ, ap, rules}
use Rattle.fle_bench.specs.Turns.{last}
use Rattle.fle_bench.specs.Value.{sealed_value}
use Rattle.fle_bench.proofs.Turns.{first-fed, repeated-next}
use Rattle.fle_bench.proofs.aead.seal_kept.Goals as goal

pub loop-turn-init : goal.loop-turn-init
loop-turn-init c = record { fed = first-fed _ c.args.first 18 (search rules); out = search rules }

pub loop-turn-preserved : goal.loop-turn-preserved
loop-turn-preserved c =
    let sealed = rw (c.loop-turn.invariant.fed, c.new-key.ensures.bytes) at c.seal_once.ensures in
    let out = repeated-next (λ (b : List ℕ). sealed_value c.args.bytes (last 18 b) c.args.plain.now) c.args.first _
    c.loop-turn._turn sealed.form in
    record { fed = c.last_18-aad.ensures.last ∙ ap (last 18) out; out = λ _. out }
