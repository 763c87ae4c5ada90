use Rattle.aes_block.proofs.Published.{entry_00, entry_53, entry_63_back, entry_ed_back}
use Rattle.aes_block.proofs.laws.published_entries.Goals as goal

pub returns-clause-first : goal.returns-clause-first
returns-clause-first c = entry_00

pub returns-clause-example : goal.returns-clause-example
returns-clause-example c = entry_53

pub returns-clause-first_back : goal.returns-clause-first_back
returns-clause-first_back c = entry_63_back

pub returns-clause-example_back : goal.returns-clause-example_back
returns-clause-example_back c = entry_ed_back
