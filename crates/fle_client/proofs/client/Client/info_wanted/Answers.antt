-- The command is sent to another database than the client's own.
use Rattle.fle_client.specs.CommandSets.{info_by}
use Rattle.fle_client.proofs.Elsewhere.{foreign_answered, is_foreign}
use Rattle.fle_client.proofs.client.Client.info_wanted.Goals as goal

pub returns-then-not-has : goal.returns-then-not-has
returns-then-not-has c =
    let rules = c.args.self.now.rules in
    let db = c.args.db.now in
    let tree = c.args.command.now.tree in
    record {
      asked = λ e. foreign_answered rules db (λ infos. info_by c.args.self.now.commands db tree) tree e e
          c.refuse.result (is_foreign rules db c.has.result c.has.ensures.has c.if-not-has.true)
          (c.refuse.ensures.answers e);
    }
