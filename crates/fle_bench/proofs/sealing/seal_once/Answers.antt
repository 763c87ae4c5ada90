use Rattle.std.proofs.Common.{◌∙◌, List, ap, refl}
use Rattle.doc_rewrite.specs.Sites.{Site}
use Rattle.fle_bench.specs.Documents.{sealed_bytes}
use Rattle.fle_bench.proofs.SameBlocks.{sealed_same}
use Rattle.fle_bench.proofs.sealing.seal_once.Goals as goal

pub returns-in-Ok-seal_through : goal.returns-in-Ok-seal_through
returns-in-Ok-seal_through c = record {
  sealed = λ _.
      sealed_same c.args.keys.now c.in-Ok.plan.sites c.args.document.now _ _ c.len.result c.seal_through.new.out refl
      c.in-Ok-seal_through.ensures.sealed
      ∙ ap (λ (ss : List Site). sealed_bytes c.args.keys.now ss c.args.document.now) c.in-Ok.ensures.sites;
}
