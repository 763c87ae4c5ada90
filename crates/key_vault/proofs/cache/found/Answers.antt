use Rattle.std.proofs.Common.{◌∙◌, sym, ap}
use Rattle.lru.specs.LruCache.{lru_cache}
use Rattle.key_vault.proofs.Kept.{first_looked_up, first_promoted, kept_none, kept_some}
use Rattle.key_vault.proofs.Kept.{none_looked_up, none_promoted}
use Rattle.key_vault.proofs.cache.found.Goals as goal

pub returns-then-eq-clause-found : goal.returns-then-eq-clause-found
returns-then-eq-clause-found c =
    kept_some c.args.key.now c.args.kept.now.entries c.in-Some.opened.now c.share_of.result
    (first_looked_up c.args.key.now.id c.args.kept.now.entries (c.in-Some.first.now, c.in-Some.opened.now)
    c.in-Some.ensures (sym c.eq.ensures ∙ c.if-eq.true))
    c.share_of.ensures.found

pub returns-then-eq-clause-used : goal.returns-then-eq-clause-used
returns-then-eq-clause-used c =
    ap (λ es. lru_cache es c.args.kept.now.cap)
    (first_promoted c.args.key.now.id c.args.kept.now.entries (c.in-Some.first.now, c.in-Some.opened.now)
    c.in-Some.ensures (sym c.eq.ensures ∙ c.if-eq.true))

pub returns-in-None-clause-found : goal.returns-in-None-clause-found
returns-in-None-clause-found c =
    kept_none c.args.key.now c.args.kept.now.entries
    (none_looked_up c.args.key.now.id c.args.kept.now.entries c.in-None.ensures)

pub returns-in-None-clause-used : goal.returns-in-None-clause-used
returns-in-None-clause-used c =
    ap (λ es. lru_cache es c.args.kept.now.cap)
    (none_promoted c.args.key.now.id c.args.kept.now.entries c.in-None.ensures)
