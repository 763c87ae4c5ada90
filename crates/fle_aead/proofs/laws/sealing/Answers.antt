use Rattle.fle_aead.proofs.SealedForm.{sealed-determines, sealed-is_sealed_length, sealed-tagged, sealed-iv}
use Rattle.fle_aead.proofs.SealedForm.{sealed-opened}
use Rattle.fle_aead.proofs.OpenedMessage.{message-sealed}
use Rattle.fle_aead.proofs.laws.sealing.Goals as goal

pub returns : goal.returns
returns c = record {
  determined = sealed-determines;
  length = sealed-is_sealed_length;
  tagged = sealed-tagged;
  iv = sealed-iv;
  opens = sealed-opened;
  message = message-sealed;
}
