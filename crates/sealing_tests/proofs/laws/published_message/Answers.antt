use Rattle.sealing_tests.proofs.PublishedMessages.{body_b3, tag_b3}
use Rattle.sealing_tests.proofs.laws.published_message.Goals as goal

pub returns-clause-body : goal.returns-clause-body
returns-clause-body c = body_b3

pub returns-clause-tag : goal.returns-clause-tag
returns-clause-tag c = tag_b3
