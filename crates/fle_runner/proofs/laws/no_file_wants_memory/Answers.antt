-- Neither a text nor documents come to it.
use Rattle.fle_files.proofs.InfosRead.{never_memory}
use Rattle.fle_runner.proofs.laws.no_file_wants_memory.Goals as goal

pub returns : goal.returns
returns c = record { never = never_memory }
