use Rattle.std.proofs.Common.{subst}
use Rattle.aes_block.specs.Block.{IsSchedule}
use Rattle.aes_block.proofs.schedule.Schedule.words.Goals as goal

pub returns-clause-schedule : goal.returns-clause-schedule
returns-clause-schedule c = subst IsSchedule c.self.view_is c.self.invariant.0
