use Rattle.std.proofs.Common.{◌≡◌, ◌<◌, List, subst}
use Rattle.std.specs.Prelude.{IfSome}
use Rattle.doc_rewrite.specs.Keys.{Table}
use Rattle.fle_bench.specs.Checksum.{checksum}
use Rattle.fle_bench.specs.Documents.{opened_bytes}
use Rattle.fle_bench.proofs.opening.open_document.Goals as goal

pub returns-in-Ok : goal.returns-in-Ok
returns-in-Ok c = record {
  sum = subst (λ (ks : Table). IfSome c.opened_sum.result
      (λ sum. 0 < c.args.turns → sum ≡ checksum (opened_bytes ks c.args.document.now)))
      c.in_ok-keys.ensures.keys c.opened_sum.ensures.sum;
}
