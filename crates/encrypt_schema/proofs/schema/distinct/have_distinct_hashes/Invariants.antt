use Rattle.encrypt_schema.proofs.Language.Hashed.{Hashed}
use Rattle.encrypt_schema.proofs.schema.distinct.have_distinct_hashes.Given as goal

abbrev pub invariant-loop-item : goal.invariant-loop-item
invariant-loop-item l = Hashed l.hashes l.item-iterator.tree l.document.tree
