use Rattle.std.proofs.Common.{refl}
use Rattle.cbc_mode.proofs.Padded.{short-pad}
use Rattle.cbc_mode.proofs.padding.last_block.Goals as goal

pub returns : goal.returns
returns c = short-pad c.args.rest.now c.copy_from_slice.new.self _ c.requires refl c.copy_from_slice.ensures.after
