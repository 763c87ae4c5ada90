use Rattle.std.proofs.lemmas.Grind.{merely}
use Rattle.aes_block.proofs.schedule.expand.Goals as goal

pub invariant_of-result : goal.invariant_of-result
invariant_of-result c = (
  c.are_schedule.ensures,
  merely c.sealing_keys-sealing.ensures,
  merely c.opening_keys-opening.ensures,
)

pub returns-clause-schedule : goal.returns-clause-schedule
returns-clause-schedule c = c.are_schedule.ensures
