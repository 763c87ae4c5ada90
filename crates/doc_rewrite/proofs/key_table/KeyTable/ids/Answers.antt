use Rattle.std.proofs.Common.{subst}
use Rattle.doc_rewrite.specs.Keys.{GivesLongIds, Table, key_in}
use Rattle.doc_rewrite.proofs.Entries.{gives_long}
use Rattle.doc_rewrite.proofs.key_table.KeyTable.ids.Goals as goal

pub returns : goal.returns
returns c = record {
  long = subst (λ (t : Table). GivesLongIds (key_in t)) c.self.view_is (gives_long _ c.ids.ensures.long);
}
