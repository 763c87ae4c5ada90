use Rattle.std.proofs.Common.{rules}
use Rattle.key_vault.proofs.Kept.{kept_none, kept_some}
use Rattle.key_vault.proofs.cache.looked_up.Goals as goal

pub returns-in-Some-clause-found : goal.returns-in-Some-clause-found
returns-in-Some-clause-found c =
    kept_some c.args.key.now c.args.kept.now.entries c.in-Some.opened.now c.share_of.result (search rules)
    c.share_of.ensures.found

pub returns-in-Some-clause-used : goal.returns-in-Some-clause-used
returns-in-Some-clause-used c = search rules

pub returns-in-None-clause-found : goal.returns-in-None-clause-found
returns-in-None-clause-found c = search (rules, kept_none)

pub returns-in-None-clause-used : goal.returns-in-None-clause-used
returns-in-None-clause-used c = search rules
