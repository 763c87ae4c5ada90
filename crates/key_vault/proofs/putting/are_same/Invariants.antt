use Rattle.std.proofs.Common.{◌≡◌, drop}
use Rattle.key_vault.specs.Putting.{same_names}
use Rattle.key_vault.proofs.putting.are_same.Given as goal

abbrev pub invariant-loop-i : goal.invariant-loop-i
invariant-loop-i l = same_names (drop l.i l.names) (drop l.i l.others) ≡ same_names l.names l.others
