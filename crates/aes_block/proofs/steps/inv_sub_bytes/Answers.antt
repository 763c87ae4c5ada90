use Rattle.aes_block.specs.Steps.{inv_sub_bytes}
use Rattle.aes_block.proofs.steps.inv_sub_bytes.Goals as goal

pub returns : goal.returns
unfolding inv_sub_bytes
returns c = c.inv_substituted.ensures
