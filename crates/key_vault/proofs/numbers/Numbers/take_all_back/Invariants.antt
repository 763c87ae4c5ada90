use Rattle.std.proofs.Common.{drop}
use Rattle.key_vault.proofs.Undone.{Taking}
use Rattle.key_vault.proofs.numbers.Numbers.take_all_back.Given as goal

abbrev pub invariant-loop-name : goal.invariant-loop-name
invariant-loop-name l = Taking l.number (drop l.name-index l.key.names) l.key.names l.fn.self l.self
