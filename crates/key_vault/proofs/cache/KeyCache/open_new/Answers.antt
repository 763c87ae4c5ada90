use Rattle.std.proofs.Common.{refl}
use Rattle.key_vault.proofs.cache.KeyCache.open_new.Goals as goal

pub keep-requires-clause-right : goal.keep-requires-clause-right
keep-requires-clause-right g c =
    rw (c.of.ensures.key, c.in-Ok-new.ensures.key, ← c.as_slice.ensures.same) c.in-Ok.ensures.answer

pub returns-in-Ok-new-clause-answer : goal.returns-in-Ok-new-clause-answer
returns-in-Ok-new-clause-answer g c =
    rw (← c.self.view_is, c.in-Ok-new.ensures.key, ← c.as_slice.ensures.same) c.in-Ok.ensures.answer

pub returns-in-Err-clause-refused : goal.returns-in-Err-clause-refused
returns-in-Err-clause-refused g c = refl
