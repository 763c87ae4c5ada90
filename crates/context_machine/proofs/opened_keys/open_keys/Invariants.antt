use Rattle.std.proofs.Common.{◌≡◌, drop}
use Rattle.context_machine.specs.Rings.{finder}
use Rattle.context_machine.specs.Tables.{table_from, table_of}
use Rattle.context_machine.proofs.opened_keys.open_keys.Given as goal

abbrev pub invariant-loop-n : goal.invariant-loop-n
invariant-loop-n g l = record {
  left : table_from (finder l.fn.wanted.kept l.fn.master) l.table (drop l.n-index l.fn.wanted.needs)
      ≡ table_of (finder l.fn.wanted.kept l.fn.master) l.fn.wanted.needs;
}
