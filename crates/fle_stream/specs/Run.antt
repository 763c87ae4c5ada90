-- What a run did, whatever cut it short.
use Rattle.std.specs.Prelude.{◌≡◌, ℕ, ◌+◌, ◌<◌, ◌≤◌, Option, Some, List, [], ◌∷◌, ◌++◌, length, take, drop}
use Rattle.fle_outside.specs.Blocks.{Block}
use Rattle.fle_outside.specs.Seen.{Draws, EntropySeen, Gains, SinkSeen}
use Rattle.fle_outside.specs.Writing.{IsProperPrefix}
use Rattle.fle_stream.specs.Plan.{Plan, Output, read_of, documents_of, draws_of, written}
use Rattle.fle_stream.specs.Outcome.{Outcome, Course, preceded}
use Rattle.fle_stream.specs.declared.why.Finish.{Finish}
use Rattle.fle_stream.specs.declared.why.Cut.{Cut}
use Rattle.fle_stream.specs.declared.why.Cut.TheVariants as cuts
use Rattle.fle_stream.specs.declared.why.Why.{Why}
use Rattle.fle_stream.specs.declared.why.Why.TheVariants as whys

-- where memory ran out, an output of documents has drawn no block; the one output of a verb that reads no input may
-- have drawn some of its blocks
abbrev pub DrawnInVain : Output → List Block → Type 0
DrawnInVain o more = (0 < o.documents → more ≡ []) × (length more ≤ o.plan.draws)

-- what was written of the outputs that are left, by what cut the run short: the blocks that the next one drew, and the
-- part of it that was written
abbrev pub CutsIn : Cut → List Output → List Block → List ℕ → Type 0
CutsIn cuts.Folder outputs more part = (more ≡ []) × (part ≡ [])
CutsIn cuts.Input outputs more part = (more ≡ []) × (part ≡ [])
CutsIn cuts.Output [] more part = ⊥
CutsIn cuts.Output (o ∷ os) more part = (length more ≡ o.plan.draws) × IsProperPrefix part (o.plan.bytes more)
CutsIn cuts.Entropy [] more part = ⊥
CutsIn cuts.Entropy (o ∷ os) more part = (length more < o.plan.draws) × (part ≡ [])
CutsIn cuts.Memory [] more part = (more ≡ []) × (part ≡ [])
CutsIn cuts.Memory (o ∷ os) more part = DrawnInVain o more × (part ≡ [])

-- so many bytes were taken, and at most `most` of those behind them
abbrev pub HandedPast : ℕ → ℕ → List ℕ → Option (List ℕ) → Type 0
HandedPast read most told after = (m : ℕ) × (m ≤ most) × (after ≡ Some (drop (read + m) told))

-- the sum of numbers
abbrev pub total : List ℕ → ℕ
total [] = 0
total (n ∷ ns) = n + total ns

-- a run failed while it read the document of this number, one of those that a step reads, the first of which has the
-- number `first`, and which have these bytes: those before it were taken, and at most its own beside them
pub record Reading (first read : ℕ) (spans told : List ℕ) (after : Option (List ℕ)) (number : ℕ) : Type 0 where
  pub before : ℕ
  pub at : number ≡ first + before
  pub among : before < length spans
  pub taken : ℕ
  pub least : total (take before spans) ≤ taken
  pub most : taken ≤ total (take (before + 1) spans)
  pub left : after ≡ Some (drop (read + taken) told)

-- what the input has left of a run that was cut short, and which document its line names: at most the next step's
-- documents are taken beside those whose outputs were written, and nothing where a folder failed
abbrev pub CutAfter : Cut → ℕ → ℕ → List ℕ → List ℕ → Option (List ℕ) → ℕ → Type 0
CutAfter cuts.Folder first read spans told after number = after ≡ Some told
CutAfter cuts.Input first read spans told after number = Reading first read spans told after number
CutAfter cuts.Output first read spans told after number =
    HandedPast read (total spans) told after × (number ≡ first)
CutAfter cuts.Entropy first read spans told after number =
    HandedPast read (total spans) told after × (number ≡ first)
CutAfter cuts.Memory first read spans told after number = HandedPast read (total spans) told after

-- nothing cut the run short: it ends as its outcome says, nothing is left of the outputs, and exactly the bytes up to
-- its end are taken
pub record Finishes (o : Outcome) (finish : Finish) (number : ℕ) (rest : List Output) (more : List Block)
    (part told : List ℕ) (after : Option (List ℕ)) : Type 0 where
  pub same : finish ≡ o.finish
  pub at : number ≡ o.number
  pub all : rest ≡ []
  pub undrawn : more ≡ []
  pub unwritten : part ≡ []
  pub left : after ≡ Some (drop o.used told)

-- how the run ends before the outputs that are left, `read` bytes of the input having been taken, the next of whose
-- documents has the number `first`
abbrev pub EndsIn : Why → ℕ → Outcome → List Output → List Block → List ℕ → ℕ → ℕ → List ℕ → List ℕ
    → Option (List ℕ) → Type 0
EndsIn (whys.Finished finish) number o rest more part first read spans told after =
    Finishes o finish number rest more part told after
EndsIn (whys.Cut cut) number o rest more part first read spans told after =
    CutsIn cut rest more part × CutAfter cut first read spans told after number

-- how one step of a run, whose first document has the number `first`, ended it: of the outputs that the input comes to,
-- none is written whole any more
pub record LastStep (o : Outcome) (first : ℕ) (told : List ℕ) (after : Option (List ℕ)) (spans : List ℕ)
    (entropy entropy_after : EntropySeen) (out out_after : SinkSeen) (number : ℕ) (why : Why) : Type 0 where
  pub more : List Block
  pub draws : Draws entropy entropy_after more
  pub part : List ℕ
  pub gains : Gains out.told out_after.told part
  pub end : EndsIn why number o o.outputs more part first 0 spans told after

-- one step of a run wrote one output, from n bytes of the input, which are d documents
pub record OneStep (course : Course) (number taken : ℕ) (told : List ℕ) (after : Option (List ℕ))
    (entropy entropy_after : EntropySeen) (out out_after : SinkSeen) (n d : ℕ) : Type 0 where
  pub plan : Plan
  pub comes : course number taken told ≡ preceded (record { read = n; documents = d; plan = plan } ∷ []) n
      (course (number + d) (taken + n) (drop n told))
  pub left : after ≡ Some (drop n told)
  pub drawn : List Block
  pub enough : length drawn ≡ plan.draws
  pub draws : Draws entropy entropy_after drawn
  pub wrote : Gains out.told out_after.told (plan.bytes drawn)
  pub filled : out.assured ≤ out_after.assured + plan.size

-- a whole run, whose first document has the number `start`: of the outputs that the input comes to, the first are
-- written whole, each with its own blocks, and then came the end
pub record Ran (o : Outcome) (start : ℕ) (told : List ℕ) (after : Option (List ℕ)) (spans : List ℕ
    → List ℕ) (entropy entropy_after : EntropySeen) (out out_after : SinkSeen) (number : ℕ) (why : Why) : Type 0 where
  pub done : List Output
  pub rest : List Output
  pub split : o.outputs ≡ done ++ rest
  pub first : List Block
  pub more : List Block
  pub enough : length first ≡ draws_of done
  pub draws : Draws entropy entropy_after (first ++ more)
  pub part : List ℕ
  pub gains : Gains out.told out_after.told (written done first ++ part)
  pub end : EndsIn why number o rest more part (start + documents_of done) (read_of done)
      (spans (drop (read_of done) told)) told after
