-- What is so of every run of a verb: what it did, how it may end, how much it took, and whose failure ended it.
use Rattle.std.specs.Prelude.{◌≡◌, ℕ, ◌<◌, ◌≤◌, true, false, Some, List}
use Rattle.fle_outside.specs.Counts.{Rose}
use Rattle.fle_outside.specs.Files.{Files}
use Rattle.fle_outside.specs.Seen.{SourceSeen, FolderSeen, SinkSeen, EntropySeen}
use Rattle.fle_stream.specs.Did.{Did}
use Rattle.fle_stream.specs.Made.{IsOfOutput}
use Rattle.fle_stream.specs.Plan.{draws_of, size_of}
use Rattle.fle_stream.specs.Task.{Task, fails, makes, each, pairs, outcome_of, reads_input}
use Rattle.fle_stream.specs.Turn.{IsOfStream, Pace, RunTook}
use Rattle.fle_stream.specs.declared.end.End.{End}
use Rattle.fle_stream.specs.declared.why.Why.{Why}
use Rattle.fle_stream.specs.declared.why.Why.TheVariants as whys
use Rattle.fle_stream.specs.declared.why.Cut.TheVariants as cuts

-- the objects that a verb runs over
pub record Objects : Type 0 where
  pub input : SourceSeen
  pub files : FolderSeen
  pub out : SinkSeen
  pub entropy : EntropySeen

-- the same of its parts: the input, the files, the output and the random blocks
abbrev pub objects : SourceSeen → FolderSeen → SinkSeen → EntropySeen → Objects
objects input files out entropy = record { input = input; files = files; out = out; entropy = entropy }

-- the files that a run goes by: those that the folder tells
abbrev pub AreTold : FolderSeen → Files → Type 0
AreTold files all = files.told ≡ Some all

-- or any at all, where the task is the same for all
abbrev pub AreAny : FolderSeen → Files → Type 0
AreAny files all = Unit {0}

-- the bytes that a task goes over: those that the input tells, where it reads the input; any, where it reads none
abbrev pub GoesOver : Task → SourceSeen → List ℕ → Type 0
GoesOver t input told = reads_input t ≡ true → input.told ≡ Some told

-- how a task ends: one that fails ends so, one that makes an output is done, or its output or its blocks failed, and no
-- end is of words or files where documents are judged; a folder's failure may come first, and memory may run out
abbrev pub EndsAs : Task → Why → Type 0
EndsAs t (whys.Cut cuts.Folder) = Unit {0}
EndsAs t (whys.Cut cuts.Memory) = Unit {0}
EndsAs (fails finish) why = why ≡ whys.Finished finish
EndsAs (makes plan) (whys.Cut cuts.Entropy) = Unit {0}
EndsAs (makes plan) why = IsOfOutput why
EndsAs (each v) why = IsOfStream why
EndsAs (pairs w) why = IsOfStream why

-- a verb ran over these objects, and ended so: its task follows from the files that it goes by, and it reads the input
-- at this pace
pub record Acted (shows : FolderSeen → Files → Type 0) (task : Files → Task) (pace : Pace) (before after : Objects)
    (end : End) : Type 0 where
  -- which bytes were written, which blocks drawn, and what the input has left: for an input that tells
  pub did : (all : Files) (told : List ℕ) → shows before.files all → before.input.told ≡ Some told
      → Did (task all) told after.input.told before.entropy after.entropy before.out after.out end.number end.why
  -- the same for any input where the task doesn't read it
  pub unread : (all : Files) (told : List ℕ) → shows before.files all → reads_input (task all) ≡ false
      → Did (task all) told (Some told) before.entropy after.entropy before.out after.out end.number end.why
  -- the end is one that the task can make
  pub placed : (all : Files) → shows before.files all → EndsAs (task all) end.why
  -- the documents before that number were taken from the input, and at most those of one step beside them
  pub took : RunTook pace before.input.taken after.input.taken end.number
  -- a failure of the input is at a document
  pub numbered : end.why ≡ whys.Cut cuts.Input → 0 < end.number
  -- each failure only where its own object counted one, and never where that is assured
  pub in_cause : end.why ≡ whys.Cut cuts.Input → Rose before.input.faults after.input.faults
  pub in_sure : before.input.assured ≡ true → end.why ≡ whys.Cut cuts.Input → ⊥
  pub folder_cause : end.why ≡ whys.Cut cuts.Folder → Rose before.files.faults after.files.faults
  pub folder_sure : before.files.assured ≡ true → end.why ≡ whys.Cut cuts.Folder → ⊥
  pub out_cause : end.why ≡ whys.Cut cuts.Output → Rose before.out.faults after.out.faults
  pub out_sure : (all : Files) (told : List ℕ) → shows before.files all → GoesOver (task all) before.input told
      → size_of (outcome_of (task all) told).outputs ≤ before.out.assured → end.why ≡ whys.Cut cuts.Output → ⊥
  pub entropy_cause : end.why ≡ whys.Cut cuts.Entropy → Rose before.entropy.faults after.entropy.faults
  pub entropy_sure : (all : Files) (told : List ℕ) → shows before.files all → GoesOver (task all) before.input told
      → draws_of (outcome_of (task all) told).outputs ≤ before.entropy.assured
      → end.why ≡ whys.Cut cuts.Entropy → ⊥
