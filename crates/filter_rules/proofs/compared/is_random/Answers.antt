use Rattle.std.proofs.Common.{◌∙◌, ap, sym}
use Rattle.encrypt_schema.specs.Language.Policies.{is_random}
use Rattle.filter_rules.proofs.Policies.{random_found}
use Rattle.filter_rules.proofs.compared.is_random.Goals as goal

pub returns-in-Random : goal.returns-in-Random
returns-in-Random c =
    ap is_random (sym c.in-Random.is) ∙ sym (random_found c.args.i c.args.rows.now c.in-Some.policy.now
    c.in-Some.ensures.rule)

pub returns-in-Deterministic : goal.returns-in-Deterministic
returns-in-Deterministic c =
    ap is_random (sym c.in-Deterministic.is) ∙ sym
    (random_found c.args.i c.args.rows.now c.in-Some.policy.now c.in-Some.ensures.rule)
