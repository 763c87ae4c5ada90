use Rattle.std.proofs.Common.{Ok, Err, ap, subst, sym}
use Rattle.doc_rewrite.specs.Keys.{Table}
use Rattle.context_machine.specs.Rings.{AreOpened, by_ids, needs_in, ring}
use Rattle.context_machine.specs.States.{OpensWith}
use Rattle.context_machine.proofs.Decrypting.{keyed, kept_opens}
use Rattle.context_machine.proofs.decrypt_need_keys.DecryptNeedKeys.done_cached.Goals as goal

pub new-requires-clause-keyed : goal.new-requires-clause-keyed
new-requires-clause-keyed g c =
    let opened = kept_opens c.args.self c.self.inside.document c.self.inside.wanted.kept c.self.inside.wanted.needs
    c.args.cache.now.master (Ok c.in-Ok-open_keys_cached.table) c.self.view_is c.self.invariant.1
    c.in-Ok-open_keys_cached.ensures.opened in
    keyed (ring c.args.self.kept c.args.cache.now.master) c.args.self.document c.in-Ok-open_keys_cached.table opened

pub returns-in-Ok-open_keys_cached-clause-opened : goal.returns-in-Ok-open_keys_cached-clause-opened
returns-in-Ok-open_keys_cached-clause-opened g c =
    let keys = by_ids (ring c.args.self.kept c.args.cache.now.master) in
    let opened = kept_opens c.args.self c.self.inside.document c.self.inside.wanted.kept c.self.inside.wanted.needs
    c.args.cache.now.master (Ok c.in-Ok-open_keys_cached.table) c.self.view_is c.self.invariant.1
    c.in-Ok-open_keys_cached.ensures.opened in
    subst (λ (t : Table). AreOpened keys (needs_in c.args.self.document) t)
    (sym (ap (λ (r : OpensWith). r.table) c.new.ensures.ready)) opened

pub returns-in-Err-clause-refused : goal.returns-in-Err-clause-refused
returns-in-Err-clause-refused g c = kept_opens
    c.args.self c.self.inside.document c.self.inside.wanted.kept c.self.inside.wanted.needs c.args.cache.now.master
    (Err c.in-Err.stop) c.self.view_is c.self.invariant.1 c.in-Err.ensures.opened
