use Rattle.std.proofs.Common.{◌≡◌, ◌+◌, ap, arith, length, List, subst, sym}
use Rattle.bson_tree.specs.Spelling.{doc_bytes}
use Rattle.bson_splice.specs.Whole.{StandsAt}
use Rattle.doc_rewrite.specs.Plans.{AreLong, IsSealedSize}
use Rattle.doc_rewrite.specs.Sites.{Site, grown, sites_of, spans_of}
use Rattle.doc_rewrite.proofs.Growth.{sealed_long}
use Rattle.doc_rewrite.proofs.planning.plan_seal.Goals as goal

pub returns-then-size-clause-above : goal.returns-then-size-clause-above
returns-then-size-clause-above c =
    let ss = sites_of c.args.rows.now c.args.document.now c.args.marks.now in
    let is = c.sites_of-sites.ensures.sites in
    let size : length c.bytes.result.now + c.grown.result ≡ length (doc_bytes c.args.document.now.tree) + grown ss =
    omega (arith, ap length c.bytes.ensures.spelling, c.grown.ensures.grown, ap grown is) in
    let long : AreLong ss = subst (λ (xs : List Site). AreLong xs) is c.grown.ensures.long in
    (_, sealed_long ss c.args.document.now c.requires.stands.places _ size long, c.if-size.true)

pub returns-clause-stands : goal.returns-clause-stands
returns-clause-stands c =
    let ss = sites_of c.args.rows.now c.args.document.now c.args.marks.now in
    let is = c.sites_of-sites.ensures.sites in
    let size : length c.bytes.result.now + c.grown.result ≡ length (doc_bytes c.args.document.now.tree) + grown ss =
    omega (arith, ap length c.bytes.ensures.spelling, c.grown.ensures.grown, ap grown is) in
    let long : AreLong ss = subst (λ (xs : List Site). AreLong xs) is c.grown.ensures.long in
    record {
      places = subst (λ (xs : List Site). StandsAt (spans_of xs) c.args.document.now) (sym is) c.requires.stands.places;
      own = is;
      size =
          subst (λ (xs : List Site). IsSealedSize xs c.args.document.now (length c.bytes.result.now + c.grown.result))
          (sym is)
          (sealed_long ss c.args.document.now c.requires.stands.places _ size long);
    }
