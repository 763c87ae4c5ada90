use Rattle.std.proofs.Common.{◌≡◌}
use Rattle.encrypt_schema.specs.Views.Parts.{left_size}
use Rattle.encrypt_schema.specs.Views.Stated.{is_spelled, left_spelled}
use Rattle.encrypt_schema.proofs.schema.pointers.are_tokens.Given as goal

abbrev pub invariant-loop-left : goal.invariant-loop-left
invariant-loop-left l = left_spelled l.left ≡ is_spelled l.text

abbrev pub decreases-loop-left : goal.decreases-loop-left
decreases-loop-left l = left_size l.left
