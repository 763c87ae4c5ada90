use Rattle.std.proofs.Common.{◌∙◌, ℕ, List, ap, rules}
use Rattle.cbc_mode.specs.Cbc.{cbc_sealed}
use Rattle.cbc_mode.specs.Padding.{pad}
use Rattle.fle_bench.specs.Turns.{last}
use Rattle.fle_bench.proofs.Turns.{first-fed, repeated-next}
use Rattle.fle_bench.proofs.cbc.seal_turns.Goals as goal

pub loop-turn-init : goal.loop-turn-init
loop-turn-init g c = record {
  fed = first-fed _ c.args.first 16 (search rules);
  out = search rules;
}

pub loop-turn-preserved : goal.loop-turn-preserved
loop-turn-preserved g c =
    let out = repeated-next (λ (b : List ℕ). cbc_sealed c.args.schedule.now (last 16 b) (pad c.args.plain.now))
    c.args.first _ c.loop-turn._turn
    (rw c.loop-turn.invariant.fed at c.cbc_seal_into.ensures.sealed) in
    record {
      fed = c.last_block-iv.ensures.last ∙ ap (last 16) out;
      out = λ _. out;
    }
