-- The keys that the vault has are opened: each payload's, or that of the first isn't to be had.
use Rattle.std.proofs.Common.{Ok, Err, ap, subst, sym}
use Rattle.doc_rewrite.specs.Keys.{Table}
use Rattle.context_machine.specs.Needs.{needs_seen}
use Rattle.context_machine.specs.Rings.{AreOpened, by_ids, needs_in, ring}
use Rattle.context_machine.specs.States.{OpensWith}
use Rattle.context_machine.proofs.Decrypting.{keyed, vault_opens}
use Rattle.context_machine.proofs.decrypt_need_keys.DecryptNeedKeys.done_from_vault.Goals as goal

pub new-requires-clause-keyed : goal.new-requires-clause-keyed
new-requires-clause-keyed g c =
    let opened = vault_opens c.args.keys.now c.args.self c.self.inside.document c.self.inside.wanted.kept
    c.self.inside.wanted.needs (needs_seen c.needs.result.now) c.args.cache.now.master (Ok c.in-Ok-open_found.table)
    c.self.view_is c.self.invariant.1 c.needs.ensures.needs c.in-Ok-open_found.ensures.opened in
    keyed (ring c.args.keys.now c.args.cache.now.master) c.args.self.document c.in-Ok-open_found.table opened

pub returns-in-Ok-open_found-clause-opened : goal.returns-in-Ok-open_found-clause-opened
returns-in-Ok-open_found-clause-opened g c =
    let keys = by_ids (ring c.args.keys.now c.args.cache.now.master) in
    let opened = vault_opens c.args.keys.now c.args.self c.self.inside.document c.self.inside.wanted.kept
    c.self.inside.wanted.needs (needs_seen c.needs.result.now) c.args.cache.now.master (Ok c.in-Ok-open_found.table)
    c.self.view_is c.self.invariant.1 c.needs.ensures.needs c.in-Ok-open_found.ensures.opened in
    subst (λ (t : Table). AreOpened keys (needs_in c.args.self.document) t)
    (sym (ap (λ (r : OpensWith). r.table) c.new.ensures.ready)) opened

pub returns-in-Err-clause-refused : goal.returns-in-Err-clause-refused
returns-in-Err-clause-refused g c = vault_opens
    c.args.keys.now c.args.self c.self.inside.document c.self.inside.wanted.kept c.self.inside.wanted.needs
    (needs_seen c.needs.result.now) c.args.cache.now.master (Err c.in-Err.stop) c.self.view_is c.self.invariant.1
    c.needs.ensures.needs c.in-Err.ensures.opened
