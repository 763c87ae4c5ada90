-- The command is sent to another database than the client's own.
use Rattle.context_machine.specs.Rings.{finder}
use Rattle.fle_engine.specs.Wide.{wide_ruling}
use Rattle.fle_client.proofs.Elsewhere.{foreign_answered}
use Rattle.fle_client.proofs.client.seal_more_under.Goals as goal

pub returns-in-Err-WrongDb-clause-sealed : goal.returns-in-Err-WrongDb-clause-sealed
returns-in-Err-WrongDb-clause-sealed g c =
    let keys = finder c.args.opener.now.keys c.args.opener.now.cache.master in
    let db = c.args.db.now in
    let tree = c.args.command.now.tree in
    let seen = g.N.Entropy.seen c.args.entropy.now in
    let judged = rw c.in-Err-WrongDb.field-0-is at c.in-Err-WrongDb.ensures.judged in (
      judged.1,
      foreign_answered c.args.rules.now db (λ infos. wide_ruling keys infos db tree) tree seen seen c.refuse.result
          judged.0 (c.refuse.ensures.answers seen),
    )
