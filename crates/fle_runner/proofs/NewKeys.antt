-- The ends of making a key.
use Rattle.std.proofs.Common.{◌≡◌, subst}
use Rattle.fle_runner.specs.Keygen.{IsOfKey}
use Rattle.fle_stream.specs.declared.why.Cut.TheVariants as cuts
use Rattle.fle_stream.specs.declared.why.Why.{Why}
use Rattle.fle_stream.specs.declared.why.Why.TheVariants as whys

pub key_unfailed : (why : Why) → IsOfKey why → why ≡ whys.Cut cuts.Folder → ⊥
key_unfailed why kind at = subst IsOfKey at kind
