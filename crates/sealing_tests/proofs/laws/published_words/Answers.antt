use Rattle.sealing_tests.proofs.PublishedBlocks.{expanded_a3}
use Rattle.sealing_tests.proofs.laws.published_words.Goals as goal

pub returns : goal.returns
returns c = record { expanded = expanded_a3 }
