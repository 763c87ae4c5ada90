use Rattle.std.proofs.Common.{◌≡◌, ◌++◌, drop}
use Rattle.context_machine.specs.Kept.{unmet}
use Rattle.context_machine.specs.Needs.{needs_seen}
use Rattle.context_machine.proofs.vault_keys.unmet.Given as goal

abbrev pub invariant-loop-n : goal.invariant-loop-n
invariant-loop-n l = needs_seen l.lacking.items ++ unmet l.keys (needs_seen (drop l.n-index l.needs))
    ≡ unmet l.keys (needs_seen l.needs)
