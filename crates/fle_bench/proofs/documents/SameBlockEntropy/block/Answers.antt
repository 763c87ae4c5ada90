use Rattle.std.proofs.Common.{◌-◌, replicate, rules}
use Rattle.fle_bench.proofs.SameBlocks.{one_same}
use Rattle.fle_bench.specs.declared.payload.TheConstants.{IV}
use Rattle.fle_bench.proofs.documents.SameBlockEntropy.block.Goals as goal

pub returns-clause-takes : goal.returns-clause-takes
returns-clause-takes c = (
  replicate (c.args.self.now.left - 1) IV,
  one_same c.args.self.now.left IV (search rules),
  search rules,
)
