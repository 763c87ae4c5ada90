use Rattle.std.proofs.Common.{length}
use Rattle.key_vault.specs.Loading.{Left}
use Rattle.key_vault.proofs.vault.Vault.load.Given as goal

abbrev pub invariant-loop-rest : goal.invariant-loop-rest
invariant-loop-rest l = Left l.fn.bytes l.vault l.rest

abbrev pub decreases-loop-rest : goal.decreases-loop-rest
decreases-loop-rest l = length l.rest
