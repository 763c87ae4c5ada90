use Rattle.std.proofs.Common.{List, [], length, ap, subst, sym}
use Rattle.doc_rewrite.specs.Plans.{StandsFor}
use Rattle.doc_rewrite.specs.Sites.{Site}
use Rattle.doc_rewrite.proofs.Clear.{clear_stands}
use Rattle.doc_rewrite.proofs.planning.plan_clear.Goals as goal

pub returns-clause-stands : goal.returns-clause-stands
returns-clause-stands c =
    let size = ap length c.bytes-size.ensures.spelling in
    let d = c.args.document.now in
    subst (λ (ss : List Site). StandsFor (record {
      sites = ss;
      marks = [];
      rows = [];
      size = length c.bytes-size.result.now;
    }) d)
    (sym c.none.ensures.empty) (clear_stands d _ size)
