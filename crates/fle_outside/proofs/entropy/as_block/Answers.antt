-- The array has 16 bytes.
use Rattle.std.proofs.Common.{rules}
use Rattle.fle_outside.proofs.Bytes.{block_from}
use Rattle.fle_outside.proofs.entropy.as_block.Goals as goal

pub returns-clause-block : goal.returns-clause-block
returns-clause-block c = block_from c.args.bytes (search rules) (search rules)
