-- A verb that reads no input: its one output is written, or something cut it short.
use Rattle.std.proofs.Common.{◌≡◌, ℕ, ◌<◌, ◌≤◌, ◌∙◌, Option, Some, List, [], ◌∷◌, ◌++◌, length, take, refl, sym, ap}
use Rattle.std.proofs.Common.{subst, arith, append-nil}
use Rattle.std.proofs.lemmas.List.{take_all}
use Rattle.fle_outside.specs.Blocks.{Block}
use Rattle.fle_outside.specs.Seen.{Draws, EntropySeen, Gains, SinkSeen}
use Rattle.fle_outside.specs.Writing.{IsProperPrefix}
use Rattle.fle_stream.specs.Did.{Did}
use Rattle.fle_stream.specs.Plan.{Plan, Output, written}
use Rattle.fle_stream.specs.Run.{EndsIn}
use Rattle.fle_stream.specs.Task.{makes, outcome_of}
use Rattle.fle_stream.specs.declared.why.Cut.{Cut}
use Rattle.fle_stream.specs.declared.why.Cut.TheVariants as cuts
use Rattle.fle_stream.specs.declared.why.Finish.TheVariants as finishes
use Rattle.fle_stream.specs.declared.why.Why.TheVariants as whys
use Rattle.fle_stream.proofs.Judgings.{gains_none}

abbrev pub output_of : Plan → Output
output_of plan = record { read = 0; documents = 0; plan = plan }

-- the output takes all blocks that were drawn
all_of : (plan : Plan) (drawn : List Block) → length drawn ≡ plan.draws
    → plan.bytes drawn ≡ written (output_of plan ∷ []) drawn ++ []
all_of plan drawn enough =
    let all : take plan.draws drawn ≡ drawn = take_all plan.draws drawn (omega (arith, enough)) in
    sym (append-nil (written (output_of plan ∷ []) drawn)
    ∙ (append-nil (plan.bytes (take plan.draws drawn)) ∙ ap plan.bytes all))

-- the output is written whole
pub did_made : (plan : Plan) (drawn : List Block) (told : List ℕ) (after : Option (List ℕ)) (before now : EntropySeen)
    (out out_after : SinkSeen)
    → length drawn ≡ plan.draws → Draws before now drawn → Gains out.told out_after.told (plan.bytes drawn)
    → after ≡ Some told
    → Did (makes plan) told after before now out out_after 0 (whys.Finished finishes.Done)
did_made plan drawn told after before now out out_after enough draws gains left = record {
  ran = record {
    done = output_of plan ∷ [];
    rest = [];
    split = refl;
    first = drawn;
    more = [];
    enough = omega (arith, enough);
    draws = subst (λ (bs : List Block). Draws before now bs) (sym (append-nil drawn)) draws;
    part = [];
    gains = subst (λ (bytes : List ℕ). Gains out.told out_after.told bytes) (all_of plan drawn enough) gains;
    end = record { same = refl; at = refl; all = refl; undrawn = refl; unwritten = refl; left = left };
  };
  unread = λ no. cc;
}

-- something cut it short: so many blocks were drawn, and this part of the output was written
cut_short : (plan : Plan) (cut : Cut) (drawn : List Block) (part told : List ℕ) (after : Option (List ℕ))
    (before now : EntropySeen) (out out_after : SinkSeen)
    → Draws before now drawn → Gains out.told out_after.told part
    → EndsIn (whys.Cut cut) 0 (outcome_of (makes plan) told) (output_of plan ∷ []) drawn part 0 0 [] told after
    → Did (makes plan) told after before now out out_after 0 (whys.Cut cut)
cut_short plan cut drawn part told after before now out out_after draws gains end = record {
  ran = record {
    done = [];
    rest = output_of plan ∷ [];
    split = refl;
    first = [];
    more = drawn;
    enough = refl;
    draws = draws;
    part = part;
    gains = gains;
    end = end;
  };
  unread = λ _. refl;
}

-- the output couldn't be written whole
pub did_unmade : (plan : Plan) (drawn : List Block) (part told : List ℕ) (after : Option (List ℕ))
    (before now : EntropySeen) (out out_after : SinkSeen)
    → length drawn ≡ plan.draws → Draws before now drawn → IsProperPrefix part (plan.bytes drawn)
    → Gains out.told out_after.told part → after ≡ Some told
    → Did (makes plan) told after before now out out_after 0 (whys.Cut cuts.Output)
did_unmade plan drawn part told after before now out out_after enough draws prefix gains left =
    cut_short plan cuts.Output drawn part told after before now out out_after draws gains
    ((enough, prefix), ((0, omega arith, left), refl))

-- a block couldn't be drawn
pub did_undrawn : (plan : Plan) (drawn : List Block) (told : List ℕ) (after : Option (List ℕ))
    (before now : EntropySeen) (out : SinkSeen)
    → length drawn < plan.draws → Draws before now drawn → after ≡ Some told
    → Did (makes plan) told after before now out out 0 (whys.Cut cuts.Entropy)
did_undrawn plan drawn told after before now out fewer draws left =
    cut_short plan cuts.Entropy drawn [] told after before now out out draws (gains_none out.told)
    ((fewer, refl), ((0, omega arith, left), refl))

-- there was no memory for the output
pub did_unkept : (plan : Plan) (drawn : List Block) (told : List ℕ) (after : Option (List ℕ)) (before now : EntropySeen)
    (out : SinkSeen)
    → length drawn ≤ plan.draws → Draws before now drawn → after ≡ Some told
    → Did (makes plan) told after before now out out 0 (whys.Cut cuts.Memory)
did_unkept plan drawn told after before now out few draws left =
    cut_short plan cuts.Memory drawn [] told after before now out out draws (gains_none out.told)
    (((λ some. absurd (omega (arith, some)), few), refl), (0, omega arith, left))
