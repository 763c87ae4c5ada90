use Rattle.std.proofs.Common.{ap, take, ◌∙◌}
use Rattle.std.proofs.Math.Logic.{∥∥₁_elim}
use Rattle.std.proofs.Props.{props}
use Rattle.fle_aead.specs.Sealed.{derived_iv}
use Rattle.fle_aead.proofs.key.DataKey.derived_iv.Goals as goal

pub returns : goal.returns
unfolding derived_iv
returns c = ∥∥₁_elim c.self.invariant.2 (hlevel props) (λ has. c.first_16.ensures
    ∙ ap (take 16) (rw (c.bit_length.ensures, c.self.view_is) at (c.compute.ensures.mac _ has)))
