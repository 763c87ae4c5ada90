use Rattle.std.proofs.Common.{◌≡◌, true}
use Rattle.encrypt_schema.specs.Language.Pointers.{token_names, tokens}
use Rattle.encrypt_schema.specs.Views.Parts.{left_size}
use Rattle.encrypt_schema.specs.Views.Stated.{left_names, left_spelled, names_before}
use Rattle.encrypt_schema.proofs.schema.pointers.token_names.Given as goal

abbrev pub invariant-loop-left : goal.invariant-loop-left
invariant-loop-left l =
    (left_spelled l.left ≡ true) × (names_before l.names (left_names l.left) ≡ token_names (tokens l.text))

abbrev pub decreases-loop-left : goal.decreases-loop-left
decreases-loop-left l = left_size l.left
