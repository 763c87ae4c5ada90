use Rattle.doc_rewrite.proofs.Policies.{next_start}
use Rattle.doc_rewrite.proofs.sites.start_at.Goals as goal

pub returns : goal.returns
returns c = record { next = next_start c.args.i c.args.sites.now c.start.result c.start.ensures.start }
