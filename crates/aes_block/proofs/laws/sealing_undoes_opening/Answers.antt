use Rattle.aes_block.proofs.Inverses.{cipher-inv_cipher}
use Rattle.aes_block.proofs.laws.sealing_undoes_opening.Goals as goal

pub returns : goal.returns
returns c = record { undone = cipher-inv_cipher }
