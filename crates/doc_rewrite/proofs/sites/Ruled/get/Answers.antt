use Rattle.std.proofs.Common.{◌∙◌, List, ap, length}
use Rattle.std.specs.Prelude.{slice_get}
use Rattle.doc_rewrite.specs.Sites.{Site, site_seen}
use Rattle.doc_rewrite.proofs.Policies.{ruled_at, site_is, site_is_none}
use Rattle.doc_rewrite.proofs.sites.Ruled.get.Goals as goal

pub site_of-site-requires : goal.site_of-site-requires
site_of-site-requires c = record {
  ruled = ruled_at (length c.self.inside.rows.now) c.args.i c.self.inside.marks.now c.in-Some.mark c.self.invariant
      c.in-Some.ensures.mark;
}

pub returns-in-Some-clause-site : goal.returns-in-Some-clause-site
returns-in-Some-clause-site c =
    site_is c.self.inside.rows.now c.self.inside.document c.self.inside.marks.now c.args.i c.in-Some.mark
    (site_seen c.site_of-site.result)
    c.in-Some.ensures.mark c.site_of-site.ensures.site
    ∙ ap (λ (ss : List Site). slice_get ss c.args.i) c.self.view_is

pub returns-in-None-clause-site : goal.returns-in-None-clause-site
returns-in-None-clause-site c =
    site_is_none c.self.inside.rows.now c.self.inside.document c.self.inside.marks.now c.args.i c.in-None.ensures.mark
    ∙ ap (λ (ss : List Site). slice_get ss c.args.i) c.self.view_is
