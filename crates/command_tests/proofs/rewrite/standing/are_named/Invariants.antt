use Rattle.std.proofs.Common.{drop}
use Rattle.doc_rewrite.specs.Plans.{AreNamed}
use Rattle.command_tests.proofs.rewrite.standing.are_named.Given as goal

abbrev pub invariant-loop-i : goal.invariant-loop-i
invariant-loop-i l = AreNamed l.rows l.document (drop l.i l.marks) → AreNamed l.rows l.document l.marks
