use Rattle.sealing_tests.proofs.PublishedBlocks.{opened_c3, sealed_c3}
use Rattle.sealing_tests.proofs.laws.published_block.Goals as goal

pub returns-clause-sealed : goal.returns-clause-sealed
returns-clause-sealed c = sealed_c3

pub returns-clause-opened : goal.returns-clause-opened
returns-clause-opened c = opened_c3
