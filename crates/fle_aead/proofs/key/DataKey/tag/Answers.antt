use Rattle.std.proofs.Common.{ap, take, ◌∙◌}
use Rattle.std.proofs.Math.Logic.{∥∥₁_elim}
use Rattle.std.proofs.Props.{props}
use Rattle.fle_aead.specs.Sealed.{tag}
use Rattle.fle_aead.proofs.key.DataKey.tag.Goals as goal

pub returns : goal.returns
unfolding tag
returns c = ∥∥₁_elim c.self.invariant.1 (hlevel props) (λ has. c.first_32.ensures
    ∙ ap (take 32) (rw (c.bit_length.ensures, c.self.view_is) at (c.compute.ensures.mac _ has)))
