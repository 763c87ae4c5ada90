-- The rules so far are for other names.
use Rattle.std.proofs.Common.{◌≡◌, drop}
use Rattle.encrypt_schema.specs.Views.Others.{other_of}
use Rattle.encrypt_schema.proofs.path.others.first_other.Given as goal

abbrev pub invariant-loop-rule : goal.invariant-loop-rule
invariant-loop-rule l = other_of (drop l.rule-index l.rules) l.name ≡ other_of l.rules l.name
