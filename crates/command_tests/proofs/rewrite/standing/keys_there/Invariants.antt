use Rattle.std.proofs.Common.{drop}
use Rattle.doc_rewrite.specs.Keys.{key_in}
use Rattle.doc_rewrite.specs.Sealing.{HasKeys}
use Rattle.command_tests.proofs.rewrite.standing.keys_there.Given as goal

abbrev pub invariant-loop-i : goal.invariant-loop-i
invariant-loop-i l = HasKeys (key_in l.keys) (drop l.i l.sites) → HasKeys (key_in l.keys) l.sites
