-- The block is the first of those that are left.
use Rattle.std.proofs.Common.{◌≡◌, ◌∙◌, ◌-◌, ◌∷◌, ◌++◌, ℕ, suc, List, refl, sym, ap, ap₂, arith}
use Rattle.std.specs.Int.{to_le_bytes, w64}
use Rattle.fle_demo.specs.Generator.{after_two, block_behind, blocks_behind, next_output}
use Rattle.fle_demo.proofs.generator.GeneratedEntropy.block.Goals as goal

pub returns-clause-takes : goal.returns-clause-takes
returns-clause-takes c =
    let left = c.args.self.now.left in
    let x = c.args.self.now.x in
    let some : left ≡ suc (left - 1) = omega (arith, c.if-self-eq0.false) in
    let one = c.next_output-first.ensures.next in
    let two : c.next_output-second.result ≡ after_two x = c.next_output-second.ensures.next ∙ ap next_output one in
    let block : c.block_of.result ≡ block_behind x = c.block_of.ensures.bytes
    ∙ ap₂ (λ (a b : ℕ). to_le_bytes w64 a ++ to_le_bytes w64 b) one two in
    let first : blocks_behind left x ≡ block_behind x ∷ blocks_behind (left - 1) (after_two x) =
    ap (λ (n : ℕ). blocks_behind n x) some in (
      blocks_behind (left - 1) c.next_output-second.result,
      first ∙ ap₂ (λ (b : List ℕ) (y : ℕ). b ∷ blocks_behind (left - 1) y) (sym block) (sym two),
      refl,
    )
