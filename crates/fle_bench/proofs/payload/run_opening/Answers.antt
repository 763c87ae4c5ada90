use Rattle.std.proofs.Common.{◌≡◌, ◌∙◌, ◌+◌, length, ap, subst, sym, List, ℕ}
use Rattle.payload6.specs.Opening.{IsOriginal}
use Rattle.fle_bench.proofs.Payloads.{original}
use Rattle.fle_bench.specs.Payload.{binary_value}
use Rattle.fle_bench.proofs.payload.run_opening.Goals as goal

pub seal_and_open-requires-clause-original : goal.seal_and_open-requires-clause-original
seal_and_open-requires-clause-original c =
    let long : length (binary_value c.args.size) ≡ c.args.size + 5 =
    sym (ap length c.in_ok-plain.ensures.bytes) ∙ c.in_ok-plain.ensures.len in
    subst (λ (p : List ℕ). IsOriginal 100 5 p) (sym (c.deref.ensures.value ∙ c.in_ok-plain.ensures.bytes))
    (original c.args.size long c.requires)
