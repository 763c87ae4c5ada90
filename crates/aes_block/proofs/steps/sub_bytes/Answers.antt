use Rattle.aes_block.specs.Steps.{sub_bytes}
use Rattle.aes_block.proofs.steps.sub_bytes.Goals as goal

pub returns : goal.returns
unfolding sub_bytes
returns c = c.substituted.ensures
