-- The rule of a mark is the one that its number finds.
use Rattle.std.proofs.Common.{◌∙◌, ap, refl, rules}
use Rattle.encrypt_schema.specs.declared.schema.policy.Policy.{Policy}
use Rattle.encrypt_schema.proofs.Language.PolicyAt.{policy_found}
use Rattle.context_machine.proofs.NamedAgain.{pointed}
use Rattle.context_machine.proofs.command_needs.name_of.Goals as goal

pub returns-in-Pointer : goal.returns-in-Pointer
returns-in-Pointer c =
    let mark = c.args.mark.now in
    let rule = policy_found mark.policy c.args.rows.now c.in-Some.policy.now (search (rules, c.in-Some.ensures.rule)) in
    record {
      named = pointed c.args.rows.now mark _ (ap (λ (p : Policy). p.key) rule ∙ c.in-Pointer.is) tt mark.name refl;
    }
