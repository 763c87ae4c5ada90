use Rattle.std.proofs.Common.{◌≡◌, drop}
use Rattle.context_machine.specs.Needs.{needs_seen}
use Rattle.context_machine.specs.Rings.{finder}
use Rattle.context_machine.specs.Tables.{table_from, table_of}
use Rattle.context_machine.proofs.vault_keys.open_found.Given as goal

abbrev pub invariant-loop-n : goal.invariant-loop-n
invariant-loop-n g l = record {
  master : l.cache.master ≡ l.fn.cache.master;
  left : table_from (finder l.fn.keys l.fn.cache.master) l.table (drop l.n-index (needs_seen l.needs))
      ≡ table_of (finder l.fn.keys l.fn.cache.master) (needs_seen l.needs);
}
