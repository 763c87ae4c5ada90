-- What a check of a document of a pair answers.
use Rattle.std.specs.Prelude.{◌≡◌, Some, None}
use Rattle.fle_stream.specs.Pairs.{Refused}
use Rattle.fle_stream.specs.declared.pairing.Checked.{Checked}
use Rattle.fle_stream.specs.declared.pairing.Checked.TheVariants as checks

-- the refusal, or none; or memory ran out
abbrev pub CheckIs : Refused → Checked → Type 0
CheckIs None checks.Passes = Unit {0}
CheckIs (Some why) (checks.Refused reason place) = (why.0 ≡ reason) × (why.1 ≡ place)
CheckIs why checks.Memory = Unit {0}
CheckIs why answer = ⊥
