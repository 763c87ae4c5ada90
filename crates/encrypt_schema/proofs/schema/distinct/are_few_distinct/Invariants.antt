use Rattle.encrypt_schema.proofs.Language.Few.{Few}
use Rattle.encrypt_schema.proofs.schema.distinct.are_few_distinct.Given as goal

abbrev pub invariant-loop-item : goal.invariant-loop-item
invariant-loop-item l = Few l.before l.count l.item-iterator.tree l.document.tree
