use Rattle.data_key.proofs.Together.{Together}
use Rattle.data_key.proofs.elements.key_elements.Given as goal

abbrev pub invariant-loop-item : goal.invariant-loop-item
invariant-loop-item l = Together l.found l.item-iterator.tree l.document.tree
