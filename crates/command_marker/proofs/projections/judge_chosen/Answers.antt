use Rattle.std.proofs.Common.{◌∙◌, sym}
use Rattle.command_marker.proofs.Projected.{chosen_array, chosen_value}
use Rattle.command_marker.proofs.projections.judge_chosen.Goals as goal

pub returns-then-is_slice_of : goal.returns-then-is_slice_of
returns-then-is_slice_of c = record {
  judged = λ rows elder. chosen_array rows elder c.args.item.now.name c.args.item.now.tree
      (sym c.is_slice_of.ensures ∙ c.if-is_slice_of.true);
}

pub returns : goal.returns
returns c = record {
  judged = λ rows elder. chosen_value rows elder c.args.item.now.name c.args.item.now.tree
      (sym c.is_slice_of.ensures ∙ c.if-is_slice_of.false);
}
