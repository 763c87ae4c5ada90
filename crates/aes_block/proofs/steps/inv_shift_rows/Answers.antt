use Rattle.std.proofs.Common.{refl}
use Rattle.aes_block.specs.Steps.{inv_shift_rows}
use Rattle.aes_block.proofs.steps.inv_shift_rows.Goals as goal

pub returns : goal.returns
unfolding inv_shift_rows
returns c = refl
