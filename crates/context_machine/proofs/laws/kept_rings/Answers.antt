use Rattle.context_machine.proofs.Decrypting.{needs_ids}
use Rattle.context_machine.proofs.Keyed.{kept_keyless, kept_keyless_ids, kept_opened, kept_opened_ids}
use Rattle.context_machine.proofs.laws.kept_rings.Goals as goal

pub returns : goal.returns
returns c = record {
  keyless = λ vault kept uses master. kept_keyless vault kept master uses;
  opened = λ vault kept uses master table. kept_opened vault kept master uses table;
  keyless_ids = λ vault kept uses master. kept_keyless_ids vault kept master uses;
  opened_ids = λ vault kept uses master table. kept_opened_ids vault kept master uses table;
  ids = needs_ids;
}
