-- The objects in memory: what each call of theirs answers, and what it leaves.
use Rattle.std.specs.Prelude.{◌≡◌, ℕ, ◌-◌, ◌==◌, ◌||◌, Some, None, Bool, true, false, Result, Ok, Err, List, [], ◌∷◌}
use Rattle.std.specs.Prelude.{◌++◌, length, take, drop, min, if◌then◌else◌, Vec, String, string_bytes}
use Rattle.std.specs.Global.{Global}
use Rattle.fle_outside.specs.Counts.{next_count, fails_at}
use Rattle.fle_outside.specs.Files.{Files, file_of, answer_at}
use Rattle.fle_outside.specs.Reads.{taken_by}
use Rattle.fle_outside.specs.Seen.{SourceSeen, FolderSeen, SinkSeen, EntropySeen}
use Rattle.fle_outside.specs.Blocks.{Block}
use Rattle.fle_outside.specs.declared.answers.Failed.{Failed}
use Rattle.fle_outside.specs.declared.answers.ReadAnswer.{ReadAnswer}
use Rattle.fle_outside.specs.declared.answers.ReadAnswer.TheVariants as reads
use Rattle.fle_outside.specs.declared.answers.FileAnswer.{FileAnswer}
use Rattle.fle_outside.specs.declared.answers.FileAnswer.TheVariants as files
use Rattle.fle_outside.specs.declared.answers.WriteAnswer.{WriteAnswer}
use Rattle.fle_outside.specs.declared.answers.WriteAnswer.TheVariants as writes

-- a source: what is left, the bytes that it handed out, the most bytes of a call, the calls that are to fail, the next
-- call's number, the calls that failed
pub record SourceState : Type 0 where
  pub left : List ℕ
  pub taken : ℕ
  pub step : ℕ
  pub failing : List ℕ
  pub calls : ℕ
  pub faults : ℕ

-- what a read into a piece of this size answers
abbrev pub read_answer : SourceState → ℕ → ReadAnswer
read_answer s size =
    if fails_at s.failing s.calls then reads.Failed
    else (if length s.left == 0 then reads.End else reads.Took (min size (min s.step (length s.left))))

-- the source after that answer
abbrev pub after_read : SourceState → ReadAnswer → SourceState
after_read s (reads.Took n) = record s {
  left = drop n s.left;
  taken = taken_by s.taken (reads.Took n);
  calls = next_count s.calls;
}
after_read s reads.End = record s { calls = next_count s.calls }
after_read s reads.Failed = record s { calls = next_count s.calls; faults = next_count s.faults }

-- what contracts of every source see of it
abbrev pub source_seen : SourceState → SourceSeen
source_seen s = record { told = Some s.left; taken = s.taken; faults = s.faults; assured = length s.failing == 0 }

-- a folder: its files, the calls that are to fail, the next call's number, the calls that failed
pub record FolderState : Type 0 where
  pub files : Files
  pub failing : List ℕ
  pub calls : ℕ
  pub faults : ℕ

-- what a read of a file at a place into a piece of this size answers
abbrev pub file_answer : FolderState → List ℕ → ℕ → ℕ → FileAnswer
file_answer s name at size = if fails_at s.failing s.calls then files.Failed else answer_at
    (file_of s.files name) at size

-- the folder after that answer
abbrev pub after_file : FolderState → FileAnswer → FolderState
after_file s (files.Took n) = record s { calls = next_count s.calls }
after_file s files.End = record s { calls = next_count s.calls }
after_file s files.Missing = record s { calls = next_count s.calls }
after_file s files.Failed = record s { calls = next_count s.calls; faults = next_count s.faults }

-- what contracts of every folder see of it
abbrev pub folder_seen : FolderState → FolderSeen
folder_seen s = record { told = Some s.files; asked = None; faults = s.faults; assured = length s.failing == 0 }

-- a name with the file's bytes
abbrev pub entry : String Global × Vec ℕ Global → List ℕ × List ℕ
entry f = (string_bytes f.0, f.1.items)

-- no two files have one name
abbrev pub HasDistinctNames : Files → Type 0
HasDistinctNames [] = Unit {0}
HasDistinctNames (f ∷ fs) = (file_of fs f.0 ≡ None) × HasDistinctNames fs

-- a sink: what it took, its free room, the most bytes of a call, the calls that are to fail, the next call's number,
-- the calls that failed
pub record SinkState : Type 0 where
  pub written : List ℕ
  pub room : ℕ
  pub step : ℕ
  pub failing : List ℕ
  pub calls : ℕ
  pub faults : ℕ

-- what a write of a piece of this size answers
abbrev pub write_answer : SinkState → ℕ → WriteAnswer
write_answer s size =
    if (fails_at s.failing s.calls || s.room == 0) then writes.Failed else writes.Took (min size (min s.step s.room))

-- the sink after that answer to a piece
abbrev pub after_write : SinkState → List ℕ → WriteAnswer → SinkState
after_write s piece (writes.Took n) = record s {
  written = s.written ++ take n piece;
  room = s.room - n;
  calls = next_count s.calls;
}
after_write s piece writes.Failed = record s { calls = next_count s.calls; faults = next_count s.faults }

-- the bytes that a sink takes for certain: its free room where no call is to fail
abbrev pub room_assured : SinkState → ℕ
room_assured s = if length s.failing == 0 then s.room else 0

-- what contracts of every sink see of it
abbrev pub sink_seen : SinkState → SinkSeen
sink_seen s = record { told = Some s.written; faults = s.faults; assured = room_assured s }

-- a source of random blocks: those to come, the calls that are to fail, the next call's number, the calls that failed
pub record EntropyState : Type 0 where
  pub left : List Block
  pub failing : List ℕ
  pub calls : ℕ
  pub faults : ℕ

-- whether a draw fails
abbrev pub draw_fails : EntropyState → Bool
draw_fails s = fails_at s.failing s.calls || length s.left == 0

-- what a draw answers: the next block, or a failure
abbrev pub DrawIs : EntropyState → Result Block Failed → Type 0
DrawIs s (Ok block) = (draw_fails s ≡ false) × (s.left ≡ block ∷ drop 1 s.left)
DrawIs s (Err _) = draw_fails s ≡ true

-- the source of blocks after that answer
abbrev pub after_draw : EntropyState → Result Block Failed → EntropyState
after_draw s (Ok block) = record s { left = drop 1 s.left; calls = next_count s.calls }
after_draw s (Err _) = record s { calls = next_count s.calls; faults = next_count s.faults }

-- the blocks that it gives for certain: those to come where no call is to fail
abbrev pub blocks_assured : EntropyState → ℕ
blocks_assured s = if length s.failing == 0 then length s.left else 0

-- what contracts of every source of blocks see of it
abbrev pub entropy_seen : EntropyState → EntropySeen
entropy_seen s = record { told = Some s.left; faults = s.faults; assured = blocks_assured s }
