use Rattle.std.proofs.Common.{drop}
use Rattle.key_vault.specs.Numbers.{AreOf}
use Rattle.key_vault.specs.Undoing.{ChangesOnly}
use Rattle.key_vault.proofs.Numbering.{Numbering}
use Rattle.key_vault.proofs.numbers.Numbers.put_all.Given as goal

abbrev pub invariant-loop-i : goal.invariant-loop-i
invariant-loop-i l =
    Numbering l.keys l.fn.self l.self l.number (drop l.i l.key.names) l.key.names
    × (AreOf l.keys l.fn.self → AreOf l.keys l.self)
    × ChangesOnly l.number l.key.names l.fn.self l.self
