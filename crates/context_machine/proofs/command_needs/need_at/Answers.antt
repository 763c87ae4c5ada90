-- The rule of a mark is the one that its number finds.
use Rattle.std.proofs.Common.{◌∙◌, [], Option, ap, rules, sym, unwrap_or}
use Rattle.encrypt_schema.specs.declared.schema.policy.Policy.{Policy}
use Rattle.encrypt_schema.proofs.Language.PolicyAt.{policy_found}
use Rattle.payload6.specs.Needs.{Name, Need, name_text, need_by}
use Rattle.context_machine.proofs.command_needs.need_at.Goals as goal

pub returns : goal.returns
returns c =
    let mark = c.args.mark.now in
    let text = name_text c.args.command.now mark in
    let rule = policy_found mark.policy c.args.rows.now c.in-Some.policy.now (search (rules, c.in-Some.ensures.rule)) in
    record {
      need = ap (λ (need : Need). record { need = need; at = mark.start }) c.named.ensures.need
          ∙ ap (λ (need : Option Need). record { need = unwrap_or need (Name []); at = mark.start })
          c.need_of.ensures.need
          ∙ ap (λ (p : Policy). record { need = unwrap_or (need_by p.key text) (Name []); at = mark.start }) (sym rule);
    }
