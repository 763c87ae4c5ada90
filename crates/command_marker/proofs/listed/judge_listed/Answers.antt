use Rattle.std.proofs.Common.{◌≡◌, ◌∙◌, true, false, sym, ap, subst, take}
use Rattle.encrypt_schema.specs.declared.command.listed.FieldKind.{FieldKind}
use Rattle.encrypt_schema.specs.Language.Names.{is_among}
use Rattle.encrypt_schema.specs.Commands.ListedFields.{field_kind}
use Rattle.encrypt_schema.specs.Commands.Visits.{entry, names_of}
use Rattle.command_marker.specs.Places.{Holds}
use Rattle.command_marker.proofs.Held.{listed_again, listed_once}
use Rattle.command_marker.proofs.listed.judge_listed.Goals as goal

pub returns-then-stands_again : goal.returns-then-stands_again
returns-then-stands_again c =
    let elder = take c.args.k (names_of c.args.document.now.tree) in
    let e = entry c.args.item.now.name c.args.item.now.tree in
    let again : is_among c.args.item.now.name elder ≡ true =
    sym c.stands_again.ensures.again ∙ c.if-stands_again.true in
    record { judged = listed_again c.args.rows.now c.args.listed elder e again }

pub returns : goal.returns
returns c =
    let rows = c.args.rows.now in
    let elder = take c.args.k (names_of c.args.document.now.tree) in
    let e = entry c.args.item.now.name c.args.item.now.tree in
    let once : is_among c.args.item.now.name elder ≡ false =
    sym c.stands_again.ensures.again ∙ c.if-stands_again.false in
    let kind = c.field_kind-kind.ensures.kind ∙ ap (field_kind c.args.listed) c.name.ensures.name in
    record {
      judged = listed_once rows c.args.listed elder e c.judge_held.result once
          (subst (λ (k : FieldKind). Holds rows k e c.judge_held.result) kind c.judge_held.ensures.judged);
    }
