-- Each state is about the command and its info.
use Rattle.std.proofs.Common.{◌≡◌, ◌∷◌, [], Some, ap}
use Rattle.context_machine.specs.Rings.{ring}
use Rattle.context_machine.specs.States.{Waits}
use Rattle.fle_demo.proofs.Steps.{ready_waited, sealed_under}
use Rattle.fle_demo.proofs.sealing.seal_command.Goals as goal

pub returns-clause-sealed : goal.returns-clause-sealed
returns-clause-sealed g c = λ block rest is.
    let keys = ring (c.args.key.now ∷ []) c.args.cache.now.master in
    let waits = c.in_ok-waits.ensures.waits in
    let with_info : c.in_ok-waits.waits.info ≡ Some c.args.info.now = ap (λ (x : Waits). x.info) waits in
    let ready = ready_waited keys c.args.info.now c.args.command c.in_ok-waits.waits c.in_ok-ready.ready waits
    (c.in_ok-ready.ensures.ready c.args.info.now with_info) in
    sealed_under c.table_seals.ensures.seals keys c.args.info.now c.args.command c.in_ok-ready.ready block
    c.seal.result.items ready (c.seal.ensures.sealed block rest is)
