use Rattle.std.proofs.Common.{◌≡◌, drop}
use Rattle.doc_rewrite.specs.Keys.{key_by_id}
use Rattle.doc_rewrite.proofs.key_table.first_key.Given as goal

abbrev pub invariant-loop-entry : goal.invariant-loop-entry
invariant-loop-entry l = key_by_id (drop l.entry-index l.entries) l.id ≡ key_by_id l.entries l.id
