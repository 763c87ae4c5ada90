use Rattle.aes_block.proofs.Inverses.{inv_cipher-cipher}
use Rattle.aes_block.proofs.laws.opening_undoes_sealing.Goals as goal

pub returns : goal.returns
returns c = record { undone = inv_cipher-cipher }
