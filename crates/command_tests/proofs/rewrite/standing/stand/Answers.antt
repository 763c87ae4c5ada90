use Rattle.std.proofs.Common.{rules}
use Rattle.doc_rewrite.proofs.Judged.{all_told}
use Rattle.command_tests.proofs.rewrite.standing.stand.Goals as goal

pub returns-in-Some : goal.returns-in-Some
returns-in-Some c = record {
  stand = λ all. all_told c.args.rows.now c.args.marks.now c.args.document.now c.sites_of-sites.result
      c.sites_of-sites.result c.in-Some.n c.len.result (search rules) c.sites_of-sites.ensures.sites (search rules)
      (search rules) c.in-Some.ensures.taken (search rules) (search (rules, all));
}
