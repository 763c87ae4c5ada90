use Rattle.std.proofs.Common.{◌≡◌, ◌∙◌, Option, Some, None, false, ap, sym, rules}
use Rattle.std.specs.Prelude.{is_some, IfSome}
use Rattle.encrypt_schema.specs.declared.command.marks.Span.{Span}
use Rattle.encrypt_schema.specs.declared.schema.policy.KeyRef.{KeyRef}
use Rattle.encrypt_schema.specs.declared.schema.policy.Policy.{Policy}
use Rattle.encrypt_schema.specs.Commands.Offences.{is_pointer}
use Rattle.encrypt_schema.proofs.Language.PolicyAt.{policy_found}
use Rattle.doc_rewrite.specs.Plans.{LiesIn}
use Rattle.command_tests.proofs.rewrite.standing.is_named.Goals as goal

nameless : (name : Option Span) (key : KeyRef) (P : Span → Type 0) → name ≡ None → is_pointer key ≡ false
    → (is_some name ≡ is_pointer key) × IfSome name P
nameless None key P e by_id = (sym by_id, tt)
nameless (Some span) key P e by_id = absurd cc

pub returns-in-Some-policy : goal.returns-in-Some-policy
returns-in-Some-policy c = record {
  named = λ yes.
      let m = c.args.mark.now in
      nameless m.name _ (λ span. LiesIn c.args.document.now span) (search rules)
      (ap (λ (p : Policy). is_pointer p.key)
      (policy_found m.policy c.args.rows.now c.in-Some-policy.policy.now
      (search (rules, c.in-Some-policy.ensures.rule)))
      ∙ c.is_by_id.ensures.id yes);
}
