use Rattle.std.proofs.Common.{rules}
use Rattle.doc_rewrite.specs.Sites.{site_seen}
use Rattle.doc_rewrite.proofs.Policies.{seen_left}
use Rattle.doc_rewrite.proofs.sites.Sites.get.Goals as goal

pub returns-in-Some-clause-first : goal.returns-in-Some-clause-first
returns-in-Some-clause-first c = seen_left site_seen c.args.i c.args.self.now c.get.result (search rules)
