use Rattle.std.proofs.Common.{sym}
use Rattle.doc_rewrite.proofs.named_keys.NamedKeys.ids.Goals as goal

pub returns : goal.returns
returns c = rw (sym c.self.view_is) record { long = c.self.invariant.1 }
