use Rattle.std.proofs.Common.{◌≡◌, ◌∙◌, List, ℕ, None, take, ap, sym, arith}
use Rattle.bson_tree.specs.Tree.{count}
use Rattle.encrypt_schema.specs.Commands.Visits.{names_of}
use Rattle.encrypt_schema.proofs.Commands.Elements.{elder_next}
use Rattle.clear_commands.specs.declared.kind.ClearKind.{ClearKind}
use Rattle.clear_commands.specs.ClearFields.{clear_kind}
use Rattle.clear_commands.specs.ClearVerdicts.{field_refusal, fields_refusal}
use Rattle.clear_commands.proofs.Walked.{left_refusal}
use Rattle.clear_commands.proofs.judging.judge_fields.Goals as goal

pub loop-field-preserved : goal.loop-field-preserved
loop-field-preserved c =
    let names = names_of c.args.command.now.tree in
    let clear = c.args.clear in
    let own = c.args.own.now in
    let k = c.loop-field.k in
    let e = c.in-Some.field in
    let rest = c.next.new.self in
    let next = elder_next k names e.name (names_of rest.tree)
    (c.loop-field.invariant.elder ∙ ap names_of c.in-Some.ensures.steps.0) in
    let kind : c.clear_kind-kind.result ≡ clear_kind clear own e.name =
    c.clear_kind-kind.ensures.kind ∙ ap (clear_kind clear own) c.name.ensures.name in
    let none : field_refusal (clear_kind clear own e.name) (take k names) e.start e.name e.tree ≡ None =
    sym (ap (λ (x : ClearKind). field_refusal x (take k names) e.start e.name e.tree) kind) ∙ c.in-Ok.ensures in
    record {
      number = omega (arith, c.loop-field.invariant.number, ap count c.in-Some.ensures.steps.0);
      elder = next.1;
      first = ap (λ (ns : List (List ℕ)). fields_refusal clear own ns rest.start rest.tree) next.0
          ∙ left_refusal clear own (take k names) c.loop-field.field-iterator rest e c.in-Some.ensures.steps none
          ∙ c.loop-field.invariant.first;
    }
