use Rattle.doc_rewrite.proofs.RuleKeys.{are_needed, rule_keys}
use Rattle.doc_rewrite.proofs.laws.sites_have_rule_keys.Goals as goal

pub returns : goal.returns
returns c = record {
  keyed = λ keys rows d ms named h long gives. rule_keys keys rows d ms named h long gives;
  needed = λ rows d ms h. are_needed rows d ms h.named;
}
