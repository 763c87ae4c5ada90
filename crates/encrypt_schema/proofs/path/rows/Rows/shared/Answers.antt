-- The key of the rule that is found is the policy's.
use Rattle.std.proofs.Common.{◌≡◌, ◌∙◌, ℕ, Option, IfSome, ap, subst, sym}
use Rattle.encrypt_schema.specs.declared.schema.policy.Policy.{Policy}
use Rattle.encrypt_schema.specs.Language.Policies.{policy_at}
use Rattle.encrypt_schema.proofs.Commands.Lookups.{under_same}
use Rattle.encrypt_schema.proofs.path.rows.Rows.shared.Goals as goal

pub returns-in_ok-policy-in-Some-policy : goal.returns-in_ok-policy-in-Some-policy
returns-in_ok-policy-in-Some-policy c =
    let rows = c.args.self.now in
    let first = c.in-Some-policy.first.now in
    let made = c.in_ok-policy-in-Some-policy.policy in
    let key : (policy_at c.in-Some.i rows).key ≡ c.args.policy.key =
    subst (λ (o : Option ℕ). IfSome o (λ k. (policy_at k rows).key ≡ c.args.policy.key)) c.in-Some.is
    c.requires.same in
    let same : made ≡ c.args.policy =
    under_same rows c.in-Some.i first c.args.policy made c.in-Some-policy.ensures.rule key
    c.in_ok-policy-in-Some-policy.ensures.under in
    record {
      same = same;
      key = subst (λ (o : Option ℕ). IfSome o (λ k. (policy_at k rows).key ≡ made.key)) (sym c.in-Some.is)
          (key ∙ ap (λ (p : Policy). p.key) (sym same));
    }
