-- The names so far are found, the others are left.
use Rattle.std.proofs.Common.{◌≡◌, ◌||◌, ℕ, List, drop}
use Rattle.encrypt_schema.specs.Language.Names.{is_among}
use Rattle.encrypt_schema.specs.Views.Others.{has}
use Rattle.encrypt_schema.proofs.path.others.in_order.Given as goal

abbrev pub invariant-loop-name : goal.invariant-loop-name
invariant-loop-name l =
    (q : List ℕ) → (has l.listed q || is_among q (drop l.name-index l.names)) ≡ is_among q l.names
