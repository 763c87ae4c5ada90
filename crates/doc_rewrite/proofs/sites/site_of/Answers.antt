use Rattle.std.proofs.Common.{ap, rules}
use Rattle.std.specs.Prelude.{option_map}
use Rattle.payload6.specs.Needs.{Need, need_seen}
use Rattle.doc_rewrite.specs.Sites.{Site}
use Rattle.doc_rewrite.proofs.Policies.{site_found}
use Rattle.doc_rewrite.proofs.sites.site_of.Goals as goal

pub returns : goal.returns
returns c =
    let m = c.args.mark.now in
    let site : Need → Site = λ n.
    record { start = m.start; end = m.end; algorithm = c.in-Some.policy.now.algorithm; need = n } in
    record {
      site = site_found c.args.rows.now c.args.document.now m c.in-Some.policy.now
          (option_map need_seen c.need_of.result) _ (search (rules, c.in-Some.ensures.rule)) c.need_of.ensures.need
          (ap site c.named.ensures.need);
      long = c.named.ensures.long;
    }
