-- Each key document has one.
use Rattle.fle_runner.proofs.HeadlineKeys.{vault_ids, vault_uuids}
use Rattle.fle_runner.proofs.laws.keys_of_a_vault_have_uuids.Goals as goal

pub returns : goal.returns
returns c = record { uuids = vault_uuids; by_ids = vault_ids }
