use Rattle.std.proofs.Common.{sym}
use Rattle.encrypt_schema.proofs.Language.PolicyAt.{policy_found}
use Rattle.encrypt_schema.proofs.path.rows.Rows.policy_at.Goals as goal

pub returns : goal.returns
returns c = record {
  policy = sym (policy_found c.args.i c.args.self.now c.in-Some.policy.now (sym c.in-Some.ensures.rule));
}
