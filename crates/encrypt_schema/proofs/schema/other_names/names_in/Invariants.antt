use Rattle.std.proofs.Common.{◌≡◌, ◌++◌}
use Rattle.encrypt_schema.specs.Language.Values.{names_of}
use Rattle.encrypt_schema.proofs.schema.other_names.names_in.Given as goal

abbrev pub invariant-loop-item : goal.invariant-loop-item
invariant-loop-item l = l.names.items ++ names_of l.item-iterator.tree ≡ names_of l.document.tree
