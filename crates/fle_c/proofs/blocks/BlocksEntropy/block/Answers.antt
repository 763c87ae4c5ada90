-- The first of the blocks that are left.
use Rattle.std.proofs.Common.{List, length, refl, ap, arith}
use Rattle.fle_outside.specs.Blocks.{Block}
use Rattle.fle_c.proofs.Handed.{nothing_in, parted}
use Rattle.fle_c.specs.Blocks.{blocks_in}
use Rattle.fle_c.proofs.blocks.BlocksEntropy.block.Goals as goal

pub returns-then-self-lt-BLOCK-clause-sure : goal.returns-then-self-lt-BLOCK-clause-sure
returns-then-self-lt-BLOCK-clause-sure c = ap length (nothing_in c.args.self.now.bytes.now c.if-self-lt-BLOCK.true)

pub returns-clause-takes : goal.returns-clause-takes
returns-clause-takes c = (
  blocks_in c.split_at.result.1.now,
  parted c.args.self.now.bytes.now c.split_at.result.0.now c.split_at.result.1.now c.as_block.result
      c.if-self-lt-BLOCK.false c.split_at.ensures.front c.split_at.ensures.back c.as_block.ensures.same,
  refl,
)

pub returns-clause-sure : goal.returns-clause-sure
returns-clause-sure c =
    let all = parted c.args.self.now.bytes.now c.split_at.result.0.now c.split_at.result.1.now c.as_block.result
    c.if-self-lt-BLOCK.false c.split_at.ensures.front c.split_at.ensures.back c.as_block.ensures.same in
    omega (arith, ap (λ (bs : List Block). length bs) all)
