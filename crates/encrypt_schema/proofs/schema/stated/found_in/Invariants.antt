use Rattle.encrypt_schema.specs.Views.Gathered.{found_seen}
use Rattle.encrypt_schema.proofs.Language.Flags.{Flagged}
use Rattle.encrypt_schema.proofs.schema.stated.found_in.Given as goal

abbrev pub invariant-loop-item : goal.invariant-loop-item
invariant-loop-item l = Flagged l.seen (found_seen l.found) l.item-iterator.tree l.schema.tree
