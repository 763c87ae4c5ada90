-- What the fields of a command come to, of whichever commands.
use Rattle.std.proofs.Common.{rules}
use Rattle.context_machine.specs.Beginning.{BeginsAs, BeginsMore}
use Rattle.context_machine.specs.States.{Started}
use Rattle.fle_client.proofs.Beginnings.{begins_four, begins_more}
use Rattle.fle_client.proofs.commands.begin.Goals as goal

pub returns-in-Four : goal.returns-in-Four
returns-in-Four c =
    let start : Started = record { db = c.args.db.now; command = c.args.command.now } in
    let begun : BeginsAs start c.begin.result = search rules in
    record { begun = rw c.in-Four.is (begins_four start c.begin.result begun) }

pub returns-in-More : goal.returns-in-More
returns-in-More c =
    let start : Started = record { db = c.args.db.now; command = c.args.command.now } in
    let begun : BeginsMore start c.begin_more.result = search rules in
    record { begun = rw c.in-More.is (begins_more start c.begin_more.result begun) }
