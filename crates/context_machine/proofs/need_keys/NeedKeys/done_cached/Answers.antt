-- The keys that are kept are opened, and the command is planned with them.
use Rattle.std.proofs.Common.{Err, Ok, option_copied}
use Rattle.context_machine.specs.Ready.{values_of}
use Rattle.context_machine.specs.Rings.{finder}
use Rattle.context_machine.proofs.Readies.{has_keys, keyless_stops, opened_ready, stops_ready, waits_told}
use Rattle.context_machine.proofs.need_keys.NeedKeys.done_cached.Goals as goal

pub with_keys-requires : goal.with_keys-requires
with_keys-requires g c =
    let w = c.args.self in
    let opened = waits_told c.args.cache.now.master (option_copied c.self.inside.info) c.self.inside.command
    c.self.inside.marked c.self.inside.wanted w (Ok c.in-Ok.table) c.self.view_is c.self.invariant
    c.in-Ok.ensures.opened in
    record {
      keyed = has_keys (finder w.kept c.args.cache.now.master) (values_of w.info w.command) c.in-Ok.table
          opened;
    }

pub returns-in-Ok-clause-opened : goal.returns-in-Ok-clause-opened
returns-in-Ok-clause-opened g c =
    let w = c.args.self in
    let opened = waits_told c.args.cache.now.master (option_copied c.self.inside.info) c.self.inside.command
    c.self.inside.marked c.self.inside.wanted w (Ok c.in-Ok.table) c.self.view_is c.self.invariant
    c.in-Ok.ensures.opened in
    opened_ready (finder w.kept c.args.cache.now.master) w c.in-Ok.table c.with_keys.result opened
    c.with_keys.ensures.ready

pub returns-in-Ok-clause-stop : goal.returns-in-Ok-clause-stop
returns-in-Ok-clause-stop g c =
    let w = c.args.self in
    let opened = waits_told c.args.cache.now.master (option_copied c.self.inside.info) c.self.inside.command
    c.self.inside.marked c.self.inside.wanted w (Ok c.in-Ok.table) c.self.view_is c.self.invariant
    c.in-Ok.ensures.opened in
    stops_ready (finder w.kept c.args.cache.now.master) w c.in-Ok.table c.with_keys.result opened
    c.with_keys.ensures.stop

pub returns-in-Err-clause-stop : goal.returns-in-Err-clause-stop
returns-in-Err-clause-stop g c =
    let w = c.args.self in
    keyless_stops (finder w.kept c.args.cache.now.master) w c.in-Err.stop
    (waits_told c.args.cache.now.master (option_copied c.self.inside.info) c.self.inside.command c.self.inside.marked
    c.self.inside.wanted w (Err c.in-Err.stop) c.self.view_is c.self.invariant c.in-Err.ensures.opened)
