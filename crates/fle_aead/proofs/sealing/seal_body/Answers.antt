use Rattle.std.proofs.Common.{refl}
use Rattle.fle_aead.specs.Sealed.{body}
use Rattle.fle_aead.proofs.sealing.seal_body.Goals as goal

pub returns : goal.returns
unfolding body
returns g c = rw (c.copy_from_slice.ensures.after, c.cbc_seal_into.ensures.sealed, c.schedule.ensures) refl
