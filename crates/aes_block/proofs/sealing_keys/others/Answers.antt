use Rattle.aes_block.proofs.Bytes.{turns_add}
use Rattle.aes_block.proofs.sealing_keys.others.Goals as goal

pub returns : goal.returns
returns c = turns_add c.args.x c.fits-x.0
