-- The command is sent to another database than the client's own.
use Rattle.fle_client.specs.CommandSets.{mark_by}
use Rattle.fle_client.proofs.Elsewhere.{foreign_answered}
use Rattle.fle_client.proofs.client.Client.mark.Goals as goal

pub returns-in-Err-WrongDb : goal.returns-in-Err-WrongDb
returns-in-Err-WrongDb c =
    let db = c.args.db.now in
    let tree = c.args.command.now.tree in
    let judged = rw c.in-Err-WrongDb.field-0-is at c.in-Err-WrongDb.ensures.judged in
    record {
      marked = λ e. (
        judged.1,
        foreign_answered c.args.self.now.rules db (λ infos. mark_by c.args.self.now.commands infos db tree) tree e e
            c.refuse.result judged.0 (c.refuse.ensures.answers e),
      );
    }
