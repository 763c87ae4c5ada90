use Rattle.std.proofs.Common.{◌≡◌, drop}
use Rattle.key_vault.specs.Keys.{key_by_id}
use Rattle.key_vault.proofs.vault.first_key.Given as goal

abbrev pub invariant-loop-key : goal.invariant-loop-key
invariant-loop-key l = key_by_id (drop l.key-index l.keys) l.id ≡ key_by_id l.keys l.id
