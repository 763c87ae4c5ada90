use Rattle.std.proofs.Common.{◌≡◌, ◌∙◌, ℕ, false, Option, Some, sym, ap}
use Rattle.bson_codec.specs.Borrowed.{At}
use Rattle.encrypt_schema.specs.declared.command.reason.Reason.{Reason}
use Rattle.encrypt_schema.specs.Commands.Stations.{is_passed}
use Rattle.encrypt_schema.specs.Commands.Visits.{refused_at, or_else}
use Rattle.command_marker.specs.Commands.{is_wide_command, collection_in}
use Rattle.command_marker.specs.Fields.{is_wide_name, later_refusal}
use Rattle.command_marker.proofs.Targets.{marked_left, string_left}
use Rattle.command_marker.proofs.TargetsMore.{aims_err, target_none, target_passes, target_read}
use Rattle.command_marker.proofs.targeting.target_more.Goals as goal

pub returns-in_default : goal.returns-in_default
returns-in_default c = record {
  aims = target_none c.args.db.now c.args.command.now.start c.args.command.now.tree
      (sym (ap (λ (a : At). a.tree) c.items-fields.ensures.elements) ∙ c.in_default.ensures.steps.0);
}

pub returns-then-is_passed : goal.returns-then-is_passed
returns-then-is_passed c =
    let first = c.in-Some.first in
    let is = sym (ap (λ (a : At). a.tree) c.items-fields.ensures.elements) in
    record {
      aims =
          target_passes c.args.db.now c.args.command.now c.items-fields.result c.next.new.self first
          c.in-Some.ensures.steps is
          (ap is_passed (sym c.name-name.ensures.name) ∙ sym c.is_passed.ensures ∙ c.if-is_passed.true);
    }

pub returns-in-Some-first_more : goal.returns-in-Some-first_more
returns-in-Some-first_more c =
    let db = c.args.db.now in
    let command = c.args.command.now in
    let first = c.in-Some.first in
    let rest = c.next.new.self in
    let is = sym (ap (λ (a : At). a.tree) c.items-fields.ensures.elements) in
    let begun = ap (λ (a : At). a.start) c.items-fields.ensures.elements in
    let read : is_passed first.name ≡ false = ap is_passed (sym c.name-name.ensures.name) ∙ sym c.is_passed.ensures
    ∙ c.if-is_passed.false in
    let later = later_refusal db first.name false rest.start rest.tree in
    record {
      aims =
          target_read db command.start command.tree c.items-fields.result rest first c.in-Some.ensures.steps is begun
          read
          ∙ ap (λ (r : Option Reason). or_else (refused_at first.start r) later) (sym c.in-Some-first_more.ensures)
          ∙ ap (λ (n : ℕ). refused_at n (Some c.in-Some-first_more.reason)) (sym c.start.ensures.start);
    }

pub name_in-requires : goal.name_in-requires
name_in-requires c = string_left (is_wide_name c.in-Some.first.name) _ _ c.in_default-first_more.ensures

pub returns-in-Ok : goal.returns-in-Ok
returns-in-Ok c =
    let db = c.args.db.now in
    let command = c.args.command.now in
    let first = c.in-Some.first in
    let rest = c.next.new.self in
    let is = sym (ap (λ (a : At). a.tree) c.items-fields.ensures.elements) in
    let begun = ap (λ (a : At). a.start) c.items-fields.ensures.elements in
    let read : is_passed first.name ≡ false = ap is_passed (sym c.name-name.ensures.name) ∙ sym c.is_passed.ensures
    ∙ c.if-is_passed.false in
    let later = later_refusal db first.name false rest.start rest.tree in
    let whole = is ∙ c.in-Some.ensures.steps.0 in
    record {
      aims = (
        target_read db command.start command.tree c.items-fields.result rest first c.in-Some.ensures.steps is begun read
            ∙ ap (λ (r : Option Reason). or_else (refused_at first.start r) later)
            (sym c.in_default-first_more.ensures)
            ∙ ap (λ (n : _). later_refusal db n false rest.start rest.tree) (sym c.name-name.ensures.name)
            ∙ c.in-Ok.ensures,
        ap is_wide_command whole ∙ marked_left (is_wide_name first.name) _ c.in_default-first_more.ensures,
        c.name_in.ensures.text ∙ sym (ap collection_in whole),
      );
    }

pub returns-in-Err : goal.returns-in-Err
returns-in-Err c =
    let db = c.args.db.now in
    let command = c.args.command.now in
    let first = c.in-Some.first in
    let rest = c.next.new.self in
    let is = sym (ap (λ (a : At). a.tree) c.items-fields.ensures.elements) in
    let begun = ap (λ (a : At). a.start) c.items-fields.ensures.elements in
    let read : is_passed first.name ≡ false = ap is_passed (sym c.name-name.ensures.name) ∙ sym c.is_passed.ensures
    ∙ c.if-is_passed.false in
    let later = later_refusal db first.name false rest.start rest.tree in
    record {
      aims =
          aims_err db command _ c.in-Err.fault
          (target_read db command.start command.tree c.items-fields.result rest first c.in-Some.ensures.steps is begun
          read
          ∙ ap (λ (r : Option Reason). or_else (refused_at first.start r) later) (sym c.in_default-first_more.ensures)
          ∙ ap (λ (n : _). later_refusal db n false rest.start rest.tree) (sym c.name-name.ensures.name))
          c.in-Err.ensures;
    }
