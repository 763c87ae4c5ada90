-- What writing a document's output answers, by what the document comes to.
use Rattle.std.specs.Prelude.{◌≡◌, Result, Ok, Err, List, [], length}
use Rattle.fle_outside.specs.Blocks.{Block}
use Rattle.fle_outside.specs.Seen.{Draws, EntropySeen, SinkSeen}
use Rattle.fle_outside.specs.Writing.{WritesWhole}
use Rattle.fle_outside.specs.declared.answers.Failed.{Failed}
use Rattle.fle_stream.specs.Judge.{DrawsShort}
use Rattle.fle_stream.specs.Plan.{Plan, Verdict, writes, refused, too_long}
use Rattle.fle_stream.specs.declared.why.Bound.TheVariants as bounds
use Rattle.fle_stream.specs.declared.why.Cut.TheVariants as cuts
use Rattle.fle_stream.specs.declared.why.Finish.TheVariants as finishes
use Rattle.fle_stream.specs.declared.why.Why.{Why}
use Rattle.fle_stream.specs.declared.why.Why.TheVariants as whys

-- the bytes of an output were written, with the blocks that it drew, or a part of them
pub record WritesPlan (plan : Plan) (before after : EntropySeen) (out out_after : SinkSeen)
    (result : Result (Unit {0}) Failed) : Type 0 where
  pub drawn : List Block
  pub enough : length drawn ≡ plan.draws
  pub draws : Draws before after drawn
  pub size : length (plan.bytes drawn) ≡ plan.size
  pub wrote : WritesWhole out out_after result (plan.bytes drawn)

-- no block was drawn, and nothing written
pub record WritesNothing (before after : EntropySeen) (out out_after : SinkSeen) : Type 0 where
  pub draws : Draws before after []
  pub same : out_after ≡ out

-- the output was written, or a part of it; the refusal; the limit; too few blocks; or memory ran out before a block was
-- drawn
abbrev pub WriteIs : Verdict → EntropySeen → EntropySeen → SinkSeen → SinkSeen → Result (Unit {0}) Why → Type 0
WriteIs (writes plan) before after out out_after (Ok done) = WritesPlan plan before after out out_after (Ok done)
WriteIs (writes plan) before after out out_after (Err (whys.Cut cuts.Output)) =
    (failed : Failed) × WritesPlan plan before after out out_after (Err failed)
WriteIs (writes plan) before after out out_after (Err (whys.Cut cuts.Entropy)) =
    DrawsShort before after plan.draws × (out_after ≡ out)
WriteIs (writes plan) before after out out_after (Err (whys.Cut cuts.Memory)) =
    WritesNothing before after out out_after
WriteIs (refused reason place) before after out out_after (Err (whys.Finished (finishes.Refused r p))) =
    (reason ≡ r) × (place ≡ p) × WritesNothing before after out out_after
WriteIs (refused reason place) before after out out_after (Err (whys.Cut cuts.Memory)) =
    WritesNothing before after out out_after
WriteIs too_long before after out out_after (Err (whys.Finished (finishes.Limit bounds.Output))) =
    WritesNothing before after out out_after
WriteIs too_long before after out out_after (Err (whys.Cut cuts.Memory)) = WritesNothing before after out out_after
WriteIs _ before after out out_after _ = ⊥
