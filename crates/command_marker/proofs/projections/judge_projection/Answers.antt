use Rattle.std.proofs.Common.{◌≡◌, ◌∙◌, ◌==◌, true, false, sym, rules}
use Rattle.bson_tree.specs.Tree.{tag_of}
use Rattle.command_marker.proofs.Projected.{projection_document, projection_refused, projection_value}
use Rattle.command_marker.proofs.projections.judge_projection.Goals as goal

pub returns-then-is_refused_projection : goal.returns-then-is_refused_projection
returns-then-is_refused_projection c = record {
  judged = λ rows elder. projection_refused rows elder c.args.item.now.name c.args.item.now.tree
      (sym c.is_refused_projection.ensures ∙ c.if-is_refused_projection.true);
}

pub returns-then-tag-eq-DOCUMENT : goal.returns-then-tag-eq-DOCUMENT
returns-then-tag-eq-DOCUMENT c =
    let t = c.args.item.now.tree in
    let document : (tag_of t == 3) ≡ true = search rules in
    record {
      judged = λ rows elder. projection_document rows elder c.args.item.now.name t
          (sym c.is_refused_projection.ensures ∙ c.if-is_refused_projection.false) document;
    }

pub returns : goal.returns
returns c =
    let t = c.args.item.now.tree in
    let document : (tag_of t == 3) ≡ false = search rules in
    record {
      judged = λ rows elder. projection_value rows elder c.args.item.now.name t
          (sym c.is_refused_projection.ensures ∙ c.if-is_refused_projection.false) document;
    }
