use Rattle.std.proofs.Common.{drop, length}
use Rattle.doc_rewrite.specs.Plans.{AreRuled}
use Rattle.command_tests.proofs.rewrite.standing.are_ruled.Given as goal

abbrev pub invariant-loop-i : goal.invariant-loop-i
invariant-loop-i l = AreRuled (length l.rows) (drop l.i l.marks) → AreRuled (length l.rows) l.marks
