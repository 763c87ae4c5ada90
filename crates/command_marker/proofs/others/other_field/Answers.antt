use Rattle.std.proofs.Common.{◌≡◌, ◌∙◌, ◌==◌, true, false, ap, rules}
use Rattle.bson_tree.specs.Tree.{tag_of}
use Rattle.encrypt_schema.specs.Commands.Stations.{inside_of}
use Rattle.command_marker.specs.Places.{holder_kind}
use Rattle.command_marker.proofs.OtherFields.{other_document, other_raw}
use Rattle.command_marker.proofs.others.other_field.Goals as goal

pub returns-then-tag-eq-DOCUMENT : goal.returns-then-tag-eq-DOCUMENT
returns-then-tag-eq-DOCUMENT c =
    let t = c.args.item.now.tree in
    let document : (tag_of t == 3) ≡ true = search rules in
    let kind = c.other_kind.ensures.kind ∙ ap (holder_kind c.args.holder) c.name.ensures.name in
    record {
      other = λ rows. other_document rows _ c.args.item.now.name t c.inside_of.result document
          (c.inside_of.ensures.station rows ∙ ap inside_of kind) (c.inside_of.ensures.stands rows);
    }

pub returns : goal.returns
returns c =
    let t = c.args.item.now.tree in
    let document : (tag_of t == 3) ≡ false = search rules in
    record { other = λ rows. other_raw rows _ c.args.item.now.name t document }
