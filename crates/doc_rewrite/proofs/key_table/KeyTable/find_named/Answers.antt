use Rattle.std.proofs.Common.{sym}
use Rattle.doc_rewrite.proofs.Entries.{name_long}
use Rattle.doc_rewrite.proofs.key_table.KeyTable.find_named.Goals as goal

pub returns-in-Some-clause-long : goal.returns-in-Some-clause-long
returns-in-Some-clause-long c =
    name_long c.self.inside.named c.args.name.now _ c.in-Some.ensures.long (sym c.in-Some.ensures.found)
