use Rattle.std.proofs.Common.{◌∙◌, sym, inl}
use Rattle.key_vault.proofs.Used.{keeps_used, used_kept}
use Rattle.key_vault.proofs.cache.KeyCache.open.Goals as goal

pub returns-in-Ok-Some-clause-kept : goal.returns-in-Ok-Some-clause-kept
returns-in-Ok-Some-clause-kept g c =
    inl
    (c.kept_key.ensures.used
    ∙ used_kept c.args.self.now.capacity c.args.key.now c.in-Ok-Some.shared c.args.self.now.entries
    (sym c.in-Ok-Some.ensures.found ∙ c.in-Ok-Some.field-0-is))

pub returns-in-Ok-None-clause-kept : goal.returns-in-Ok-None-clause-kept
returns-in-Ok-None-clause-kept g c =
    keeps_used c.args.self.now.capacity c.kept_key.new.self.capacity c.args.key.now c.args.self.now.entries
    c.kept_key.new.self.entries c.open_new.new.self.entries c.open_new.result c.kept_key.ensures.capacity
    c.kept_key.ensures.used c.open_new.ensures.kept c.open_new.ensures.refused
