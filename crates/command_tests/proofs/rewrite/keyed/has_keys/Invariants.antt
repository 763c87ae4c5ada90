use Rattle.std.proofs.Common.{drop}
use Rattle.doc_rewrite.specs.Finding.{HasKeysFor}
use Rattle.doc_rewrite.specs.Keys.{key_by_id}
use Rattle.command_tests.proofs.rewrite.keyed.has_keys.Given as goal

abbrev pub invariant-loop-i : goal.invariant-loop-i
invariant-loop-i l = HasKeysFor (key_by_id l.keys.ids) (drop l.i l.found) → HasKeysFor (key_by_id l.keys.ids) l.found
