use Rattle.std.proofs.Common.{refl}
use Rattle.aes_block.specs.Steps.{shift_rows}
use Rattle.aes_block.proofs.steps.shift_rows.Goals as goal

pub returns : goal.returns
unfolding shift_rows
returns c = refl
