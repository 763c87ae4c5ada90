use Rattle.std.proofs.Common.{◌≡◌, drop}
use Rattle.context_machine.specs.Rings.{finder}
use Rattle.context_machine.specs.Tables.{table_from, table_of}
use Rattle.context_machine.proofs.opened_keys.open_keys_cached.Given as goal

abbrev pub invariant-loop-n : goal.invariant-loop-n
invariant-loop-n g l = record {
  master : l.cache.master ≡ l.fn.cache.master;
  left : table_from (finder l.fn.wanted.kept l.fn.cache.master) l.table (drop l.n-index l.fn.wanted.needs)
      ≡ table_of (finder l.fn.wanted.kept l.fn.cache.master) l.fn.wanted.needs;
}
