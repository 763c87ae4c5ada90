-- The infos of one database are put, and the others stay.
use Rattle.std.proofs.Common.{Some}
use Rattle.fle_client.proofs.Tellings.{others_of_name}
use Rattle.fle_client.proofs.told.put_database.Goals as goal

pub returns-in-Ok-insert-clause-others : goal.returns-in-Ok-insert-clause-others
returns-in-Ok-insert-clause-others c =
    others_of_name c.args.db.now c.in-Ok.name c.args.told.now c.insert.new.self (Some c.args.infos)
    c.in-Ok.ensures.items c.in-Ok-insert.ensures.updates
