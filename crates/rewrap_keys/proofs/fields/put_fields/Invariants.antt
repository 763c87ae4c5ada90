use Rattle.rewrap_keys.proofs.Filled.{Filling}
use Rattle.rewrap_keys.proofs.fields.put_fields.Given as goal

abbrev pub invariant-loop-field : goal.invariant-loop-field
invariant-loop-field l =
    Filling l.material l.time l.at l.end l.fn.out l.out l.document.tree l.field-iterator.tree
