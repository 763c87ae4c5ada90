use Rattle.key_vault.proofs.Used.{keeps_used}
use Rattle.key_vault.proofs.cache.KeyCache.data_key.Goals as goal

pub returns-in-Err-Memory-clause-kept : goal.returns-in-Err-Memory-clause-kept
returns-in-Err-Memory-clause-kept g c =
    keeps_used c.args.self.now.capacity c.open.new.self.capacity c.args.key.now c.args.self.now.entries
    c.open.new.self.entries c.open_alone.new.self.entries c.open_alone.result c.open.ensures.capacity
    c.in-Err-Memory.ensures.kept c.open_alone.ensures.kept c.open_alone.ensures.refused
