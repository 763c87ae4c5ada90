use Rattle.context_machine.proofs.Infos.{found_info, found_kept, found_more}
use Rattle.context_machine.proofs.info_laws.found_info.Goals as goal

pub returns : goal.returns
returns c = record { kept = found_kept; found = found_info; more = found_more }
