use Rattle.std.proofs.Common.{ap, ◌∙◌}
use Rattle.aes_block.specs.Block.{xor_bytes}
use Rattle.aes_block.proofs.Bytes.{zip2-xor_bytes}
use Rattle.aes_block.proofs.sealing.begin.Goals as goal

pub returns-clause-sum : goal.returns-clause-sum
returns-clause-sum c = zip2-xor_bytes c.in_basis.result c.args.key
    ∙ ap (λ z. xor_bytes z c.args.key) c.in_basis.ensures.mapped
