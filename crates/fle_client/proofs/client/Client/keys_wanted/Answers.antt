-- The command is sent to another database than the client's own.
use Rattle.fle_engine.proofs.Unmade.{spot_undrawing}
use Rattle.fle_client.specs.Clients.{keys_of}
use Rattle.fle_client.specs.CommandSets.{draws_by, keys_by}
use Rattle.fle_client.specs.Known.{infos_of}
use Rattle.fle_client.proofs.Elsewhere.{foreign_answered}
use Rattle.fle_client.proofs.client.Client.keys_wanted.Goals as goal

pub returns-in-Err-WrongDb : goal.returns-in-Err-WrongDb
returns-in-Err-WrongDb c =
    let client = c.args.self.now in
    let db = c.args.db.now in
    let tree = c.args.command.now.tree in
    let judged = rw c.in-Err-WrongDb.field-0-is at c.in-Err-WrongDb.ensures.judged in
    record {
      asked = λ e. (
        judged.1,
        foreign_answered client.rules db (λ infos. keys_by client.commands (keys_of client.keys) infos db tree) tree e e
            c.refuse.result judged.0 (c.refuse.ensures.answers e),
        spot_undrawing (draws_by client.commands (infos_of client.rules db) tree) tree _ c.refuse.result
            c.refuse.ensures.answers,
      );
    }
