use Rattle.doc_rewrite.proofs.Policies.{first_left}
use Rattle.command_tests.proofs.rewrite.keyed.payload_at.Goals as goal

pub returns : goal.returns
returns c = record { first = first_left c.args.i c.args.found.now c.get.result c.get.ensures.payload }
