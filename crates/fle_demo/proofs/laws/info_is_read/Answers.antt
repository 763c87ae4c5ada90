use Rattle.fle_demo.proofs.Bytes.{info_size}
use Rattle.fle_demo.proofs.Infos.{alone_read}
use Rattle.fle_demo.proofs.Laid.{info_laid}
use Rattle.fle_demo.proofs.Verdicts.{rows_of_info}
use Rattle.fle_demo.proofs.laws.info_is_read.Goals as goal

pub returns : goal.returns
returns c = record { spelled = info_laid; short = info_size; rows = rows_of_info; alone = alone_read }
