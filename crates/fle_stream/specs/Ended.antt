-- How a run of a program ended: one ending for its status, its line, its output, its blocks and its input.
use Rattle.std.specs.Prelude.{◌≡◌, ℕ, ◌≤◌, Result, Some, List, length}
use Rattle.fle_outside.specs.Blocks.{Block}
use Rattle.fle_outside.specs.Counts.{Rose}
use Rattle.fle_outside.specs.Files.{Files}
use Rattle.fle_outside.specs.Seen.{Draws, EntropySeen, FolderSeen, Gains, SinkSeen, SourceSeen}
use Rattle.fle_outside.specs.Writing.{WritesWhole}
use Rattle.fle_outside.specs.declared.answers.Failed.{Failed}
use Rattle.fle_stream.specs.Acted.{Acted, GoesOver, Objects, objects}
use Rattle.fle_stream.specs.Codes.{status_of, status_of_finish}
use Rattle.fle_stream.specs.Line.{line_of}
use Rattle.fle_stream.specs.Outcome.{Outcome}
use Rattle.fle_stream.specs.Plan.{draws_of, size_of, written}
use Rattle.fle_stream.specs.Task.{Task, outcome_of}
use Rattle.fle_stream.specs.Turn.{Pace}
use Rattle.fle_stream.specs.declared.status.Status.{Status}
use Rattle.fle_stream.specs.declared.status.Status.TheVariants as statuses
use Rattle.fle_stream.specs.declared.end.End.{End}

-- all objects of a run
pub record World : Type 0 where
  pub input : SourceSeen
  pub files : FolderSeen
  pub out : SinkSeen
  pub diag : SinkSeen
  pub entropy : EntropySeen

-- the same of its parts: the input, the files, the output, the diagnostics and the random blocks
abbrev pub world : SourceSeen → FolderSeen → SinkSeen → SinkSeen → EntropySeen → World
world input files out diag entropy = record { input = input; files = files; out = out; diag = diag; entropy = entropy }

-- what of them a verb runs over: all but the diagnostics
abbrev pub objects_of : World → Objects
objects_of w = objects w.input w.files w.out w.entropy

-- how a run ended: its verb goes by the files that these show, and their task, at this pace
pub record Ended (shows : FolderSeen → Files → Type 0) (task : Files → Task) (pace : Pace) (before after : World)
    (status : Status) : Type 0 where
  -- why it ended, and the number of the document for the line
  pub end : End
  -- the status is that of the end
  pub answer : status ≡ status_of end.why
  -- what the verb did, how much it took, and whose failure ended it
  pub run : Acted shows task pace (objects_of before) (objects_of after) end
  -- whether the line was written whole
  pub reported : Result (Unit {0}) Failed
  -- the line says why
  pub says : WritesWhole before.diag after.diag reported (line_of end.why end.number)

-- no count of faults rose
pub record Unfailed (before after : World) : Type 0 where
  pub input : Rose before.input.faults after.input.faults → ⊥
  pub files : Rose before.files.faults after.files.faults → ⊥
  pub out : Rose before.out.faults after.out.faults → ⊥
  pub entropy : Rose before.entropy.faults after.entropy.faults → ⊥

-- where nothing failed and memory lasted, the status is that of the outcome
abbrev pub Settles : (Files → Task) → World → World → Status → Type 0
Settles task before after status =
    (all : Files) (told : List ℕ) → before.files.told ≡ Some all → before.input.told ≡ Some told
    → Unfailed before after → (status ≡ statuses.Memory → ⊥)
    → status ≡ status_of_finish (outcome_of (task all) told).finish

-- all outputs were written, each with its own blocks
pub record Whole (o : Outcome) (entropy entropy_after : EntropySeen) (out out_after : SinkSeen) : Type 0 where
  pub drawn : List Block
  pub enough : length drawn ≡ draws_of o.outputs
  pub draws : Draws entropy entropy_after drawn
  pub gains : Gains out.told out_after.told (written o.outputs drawn)

-- no object failed and memory lasted
abbrev pub IsSettled : Status → Type 0
IsSettled statuses.Done = Unit {0}
IsSettled statuses.Refused = Unit {0}
IsSettled statuses.Words = Unit {0}
IsSettled statuses.Malformed = Unit {0}
IsSettled statuses.Setup = Unit {0}
IsSettled statuses.ReadFault = ⊥
IsSettled statuses.WriteFault = ⊥
IsSettled statuses.EntropyFault = ⊥
IsSettled statuses.Memory = ⊥
IsSettled statuses.Limit = Unit {0}

-- where the status is no fault and memory sufficed, every output was written whole
abbrev pub WritesAll : (Files → Task) → World → World → Status → Type 0
WritesAll task before after status =
    (all : Files) (told : List ℕ) → before.files.told ≡ Some all → before.input.told ≡ Some told
    → IsSettled status → Whole (outcome_of (task all) told) before.entropy after.entropy before.out after.out

-- a sink that is assured of all bytes that are to be written doesn't fail; the input need not tell what it holds where
-- the task reads none
abbrev pub WritesSurely : (Files → Task) → World → Status → Type 0
WritesSurely task before status =
    (all : Files) (told : List ℕ) → before.files.told ≡ Some all → GoesOver (task all) before.input told
    → size_of (outcome_of (task all) told).outputs ≤ before.out.assured → status ≡ statuses.WriteFault → ⊥

-- nor does a source of blocks that is assured of all that are to be drawn
abbrev pub DrawsSurely : (Files → Task) → World → Status → Type 0
DrawsSurely task before status =
    (all : Files) (told : List ℕ) → before.files.told ≡ Some all → GoesOver (task all) before.input told
    → draws_of (outcome_of (task all) told).outputs ≤ before.entropy.assured → status ≡ statuses.EntropyFault → ⊥

-- words or a file are at fault, so the input isn't read and nothing is written
abbrev pub IsUnread : Status → Type 0
IsUnread statuses.Words = Unit {0}
IsUnread statuses.Setup = Unit {0}
IsUnread _ = ⊥
