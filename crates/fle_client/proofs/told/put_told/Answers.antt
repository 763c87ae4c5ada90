-- The infos of one database are put, and the others stay.
use Rattle.std.proofs.Common.{Some, rules}
use Rattle.fle_client.proofs.Tellings.{others_stay}
use Rattle.fle_client.proofs.told.put_told.Goals as goal

pub returns-in-Some-clause-others : goal.returns-in-Some-clause-others
returns-in-Some-clause-others c =
    let new = c.put.new.self in
    others_stay c.args.db.now c.args.told.now (c.get_mut.follows.lender new) (Some new)
    ((c.get_mut.follows.holds new).3 (search rules))
