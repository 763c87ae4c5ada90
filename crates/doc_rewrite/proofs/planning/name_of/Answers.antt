-- The rule of a mark is the one that its number finds.
use Rattle.std.proofs.Common.{◌≡◌, ◌∙◌, None, ap, rules}
use Rattle.encrypt_schema.specs.declared.schema.policy.Policy.{Policy}
use Rattle.encrypt_schema.proofs.Language.PolicyAt.{policy_found, policy_past}
use Rattle.doc_rewrite.proofs.LastNames.{named}
use Rattle.doc_rewrite.proofs.planning.name_of.Goals as goal

pub returns-in_err-policy : goal.returns-in_err-policy
returns-in_err-policy c =
    let m = c.args.mark.now in
    let past = policy_past m.policy c.args.rows.now (search (rules, c.in_err-policy.ensures.rule)) in
    let none : c.from_residual.result ≡ None = search rules in
    record { name = none ∙ named c.args.rows.now m _ (ap (λ (p : Policy). p.key) past) }

pub returns-in-Id : goal.returns-in-Id
returns-in-Id c =
    let m = c.args.mark.now in
    let rule = policy_found m.policy c.args.rows.now c.in_ok-policy.policy.now
    (search (rules, c.in_ok-policy.ensures.rule)) in
    record { name = named c.args.rows.now m _ (ap (λ (p : Policy). p.key) rule ∙ c.in-Id.is) }

pub returns-in-Pointer : goal.returns-in-Pointer
returns-in-Pointer c =
    let m = c.args.mark.now in
    let rule = policy_found m.policy c.args.rows.now c.in_ok-policy.policy.now
    (search (rules, c.in_ok-policy.ensures.rule)) in
    record { name = named c.args.rows.now m _ (ap (λ (p : Policy). p.key) rule ∙ c.in-Pointer.is) }
