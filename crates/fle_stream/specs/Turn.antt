-- What one turn of a verb that reads the input does.
use Rattle.std.specs.Prelude.{◌≡◌, ℕ, ◌+◌, ◌*◌, ◌-◌, ◌^◌, ◌<◌, ◌≤◌, min, Option, List, Result, Ok, Err}
use Rattle.fle_outside.specs.Filling.{RoseBy}
use Rattle.fle_outside.specs.Seen.{EntropySeen, SinkSeen}
use Rattle.fle_stream.specs.Outcome.{Course}
use Rattle.fle_stream.specs.Run.{OneStep, LastStep}
use Rattle.fle_stream.specs.declared.why.Why.{Why}
use Rattle.fle_stream.specs.declared.why.Why.TheVariants as whys
use Rattle.fle_stream.specs.declared.why.Finish.TheVariants as finishes
use Rattle.fle_stream.specs.declared.why.Cut.{Cut}
use Rattle.fle_stream.specs.declared.why.Cut.TheVariants as cuts
use Rattle.fle_stream.specs.declared.turning.Turn.{Turn}
use Rattle.fle_stream.specs.declared.turning.Turn.TheVariants as turns

-- how many documents a turn reads at most, and how many bytes each of them has at most
pub record Pace : Type 0 where
  pub documents : ℕ
  pub bytes : ℕ

-- a turn wrote one output or ended the run, as the course of the verb says
abbrev pub TurnOf : Course → (List ℕ → List ℕ) → ℕ → ℕ → List ℕ → Option (List ℕ) → EntropySeen → EntropySeen → SinkSeen
    → SinkSeen → Turn → Type 0
TurnOf course spans number taken told after entropy entropy_after out out_after (turns.Wrote n d) =
    OneStep course number taken told after entropy entropy_after out out_after n d
TurnOf course spans number taken told after entropy entropy_after out out_after (turns.Ended at why) =
    LastStep (course number taken told) number told after (spans told) entropy entropy_after out out_after at why

-- told or not, the input handed out the bytes of the documents that the output came from, or at most as many as a
-- turn's may have, and those before the document at which the run ended
abbrev pub TurnTook : Pace → ℕ → ℕ → ℕ → Turn → Type 0
TurnTook pace number before after (turns.Wrote n d) = RoseBy before after n
TurnTook pace number before after (turns.Ended at why) =
    (number ≤ at)
    × (min (before + 5 * (at - number)) (2 ^ 64 - 1) ≤ after)
    × (after ≤ before + pace.bytes * pace.documents)

-- told or not, a run that ends at the document of this number took those before it, each of 5 bytes or more, and at
-- most that one, with those that are read beside it
abbrev pub RunTook : Pace → ℕ → ℕ → ℕ → Type 0
RunTook pace before after number =
    (min (before + 5 * (number - 1)) (2 ^ 64 - 1) ≤ after)
    × (after ≤ before + pace.bytes * (number + (pace.documents - 1)))

-- the turn ended the run by this
abbrev pub EndsBy : Cut → Turn → Type 0
EndsBy cut (turns.Wrote n d) = ⊥
EndsBy cut (turns.Ended at why) = why ≡ whys.Cut cut

-- the ends that reading the input can make
abbrev pub IsOfStream : Why → Type 0
IsOfStream (whys.Finished finishes.Words) = ⊥
IsOfStream (whys.Finished (finishes.Setup file fault document)) = ⊥
IsOfStream (whys.Finished (finishes.Key reason document)) = ⊥
IsOfStream (whys.Finished finish) = Unit {0}
IsOfStream (whys.Cut cuts.Folder) = ⊥
IsOfStream (whys.Cut cut) = Unit {0}

-- an end of a turn is one of a stream
abbrev pub EndsOfStream : Turn → Type 0
EndsOfStream (turns.Wrote n d) = Unit {0}
EndsOfStream (turns.Ended at why) = IsOfStream why

-- what a turn that wrote took: within the pace, after fewer than 2^40 bytes
abbrev pub Progresses : Pace → ℕ → Turn → Type 0
Progresses pace taken (turns.Wrote n d) =
    (taken + 1 ≤ 2 ^ 40) × (1 ≤ d) × (d ≤ pace.documents) × (5 * d ≤ n) × (n ≤ pace.bytes * d) × (n ≤ 2 ^ 40)
Progresses pace taken (turns.Ended at why) = Unit {0}

-- what the rest of a turn took, behind a first document of so many bytes and this number
abbrev pub TookBehind : Pace → ℕ → ℕ → ℕ → ℕ → Turn → Type 0
TookBehind pace size number before after (turns.Wrote n d) = (size ≤ n) × RoseBy before after (n - size)
TookBehind pace size number before after (turns.Ended at why) =
    (number ≤ at)
    × (at < number + pace.documents)
    × (min before (2 ^ 64 - 1) ≤ after)
    × (after ≤ before + pace.bytes * (pace.documents - 1))

-- what a turn did that wrote an output, from n bytes of the input, which are d documents from this number on; or why it
-- wrote none
abbrev pub turn_by : ℕ → ℕ → ℕ → Result (Unit {0}) Why → Turn
turn_by number n d (Ok done) = turns.Wrote n d
turn_by number n d (Err why) = turns.Ended number why
