-- The keys that the vault has are opened, and the command is planned with them.
use Rattle.std.proofs.Common.{Err, Ok, option_copied}
use Rattle.context_machine.specs.Needs.{needs_seen}
use Rattle.context_machine.specs.Ready.{values_of}
use Rattle.context_machine.specs.Rings.{finder}
use Rattle.context_machine.proofs.Keyed.{finder_own}
use Rattle.context_machine.proofs.Readies.{has_keys, keyless_stops, opened_ready, stops_ready, waits_found}
use Rattle.context_machine.proofs.need_keys.NeedKeys.done_from_vault.Goals as goal

pub with_keys-requires : goal.with_keys-requires
with_keys-requires g c =
    let w = c.args.self in
    let keys = finder c.args.keys.now c.args.cache.now.master in
    let opened = waits_found keys (finder_own c.args.keys.now c.args.cache.now.master)
    (option_copied c.self.inside.info) c.self.inside.command c.self.inside.marked c.self.inside.wanted w
    (needs_seen c.needs.result.now) (Ok c.in-Ok.table) c.self.view_is c.self.invariant c.needs.ensures.needs
    c.in-Ok.ensures.opened in
    record { keyed = has_keys keys (values_of w.info w.command) c.in-Ok.table opened }

pub returns-in-Ok-clause-opened : goal.returns-in-Ok-clause-opened
returns-in-Ok-clause-opened g c =
    let w = c.args.self in
    let keys = finder c.args.keys.now c.args.cache.now.master in
    let opened = waits_found keys (finder_own c.args.keys.now c.args.cache.now.master)
    (option_copied c.self.inside.info) c.self.inside.command c.self.inside.marked c.self.inside.wanted w
    (needs_seen c.needs.result.now) (Ok c.in-Ok.table) c.self.view_is c.self.invariant c.needs.ensures.needs
    c.in-Ok.ensures.opened in
    opened_ready keys w c.in-Ok.table c.with_keys.result opened c.with_keys.ensures.ready

pub returns-in-Ok-clause-stop : goal.returns-in-Ok-clause-stop
returns-in-Ok-clause-stop g c =
    let w = c.args.self in
    let keys = finder c.args.keys.now c.args.cache.now.master in
    let opened = waits_found keys (finder_own c.args.keys.now c.args.cache.now.master)
    (option_copied c.self.inside.info) c.self.inside.command c.self.inside.marked c.self.inside.wanted w
    (needs_seen c.needs.result.now) (Ok c.in-Ok.table) c.self.view_is c.self.invariant c.needs.ensures.needs
    c.in-Ok.ensures.opened in
    stops_ready keys w c.in-Ok.table c.with_keys.result opened c.with_keys.ensures.stop

pub returns-in-Err-clause-stop : goal.returns-in-Err-clause-stop
returns-in-Err-clause-stop g c =
    let w = c.args.self in
    let keys = finder c.args.keys.now c.args.cache.now.master in
    keyless_stops keys w c.in-Err.stop
    (waits_found keys (finder_own c.args.keys.now c.args.cache.now.master) (option_copied c.self.inside.info)
    c.self.inside.command c.self.inside.marked c.self.inside.wanted w (needs_seen c.needs.result.now)
    (Err c.in-Err.stop) c.self.view_is c.self.invariant c.needs.ensures.needs c.in-Err.ensures.opened)
