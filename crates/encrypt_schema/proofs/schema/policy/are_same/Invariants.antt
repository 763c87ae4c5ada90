use Rattle.std.proofs.Common.{◌≡◌, drop}
use Rattle.encrypt_schema.specs.Paths.Classes.{is_same_path}
use Rattle.encrypt_schema.proofs.schema.policy.are_same.Given as goal

abbrev pub invariant-loop-i : goal.invariant-loop-i
invariant-loop-i l = is_same_path (drop l.i l.names) (drop l.i l.others) ≡ is_same_path l.names l.others
