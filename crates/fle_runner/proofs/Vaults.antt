-- The ends of a verb that tells a text.
use Rattle.std.proofs.Common.{◌≡◌, subst}
use Rattle.fle_runner.specs.Keys.{IsOfText}
use Rattle.fle_stream.specs.declared.why.Cut.TheVariants as cuts
use Rattle.fle_stream.specs.declared.why.Why.{Why}
use Rattle.fle_stream.specs.declared.why.Why.TheVariants as whys

pub text_unfailed : (why : Why) → IsOfText why → why ≡ whys.Cut cuts.Folder → ⊥
text_unfailed why kind at = subst IsOfText at kind
