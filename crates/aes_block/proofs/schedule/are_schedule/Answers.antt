use Rattle.std.proofs.Common.{rules}
use Rattle.aes_block.proofs.WordBytes.{schedule_from}
use Rattle.aes_block.proofs.schedule.are_schedule.Goals as goal

pub returns : goal.returns
returns c = schedule_from c.args.words (search rules) (search rules)
