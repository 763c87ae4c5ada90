use Rattle.fle_bench.proofs.Payloads.{number-is_kind}
use Rattle.fle_bench.proofs.payload.seal_and_open.Goals as goal

pub returns : goal.returns
returns c = λ some.
    (c.open.ensures some).begins _ _ _ _ _ (rw c.new.ensures.bytes at c.seal_once.ensures)
    (number-is_kind c.args.algorithm) c.requires.original
