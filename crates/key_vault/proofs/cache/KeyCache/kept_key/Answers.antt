use Rattle.std.proofs.Common.{◌∙◌, sym, subst, ap, map}
use Rattle.key_vault.specs.Cached.{AreOpened, entry_of}
use Rattle.key_vault.proofs.Kept.{promoted_opened, promoted_used, shared_opened}
use Rattle.key_vault.proofs.cache.KeyCache.kept_key.Goals as goal

pub invariant_of-self : goal.invariant_of-self
invariant_of-self c =
    subst (λ s. AreOpened c.self.inside.master s.entries) (sym c.found.ensures.used)
    (promoted_opened c.self.inside.master _ c.self.inside.kept.entries c.self.invariant)

pub returns-clause-opened : goal.returns-clause-opened
returns-clause-opened c =
    rw (sym c.self.view_is)
    (shared_opened c.self.inside.master c.args.key.now c.found.result c.self.inside.kept.entries c.self.invariant
    c.found.ensures.found)

pub returns-clause-used : goal.returns-clause-used
returns-clause-used c =
    rw (sym c.self.view_is)
    (ap (λ s. map entry_of s.entries) c.found.ensures.used
    ∙ promoted_used c.args.key.now.id c.self.inside.kept.entries)
