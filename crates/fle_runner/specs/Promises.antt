-- MongoDB Client Side Encryption, by a filter program: what a run keeps, one record, a field for each promise.
use Rattle.std.specs.Prelude.{◌≡◌, ℕ, true, None, List}
use Rattle.fle_outside.specs.Seen.{AsksOnly}
use Rattle.fle_stream.specs.Acted.{Acted, Objects}
use Rattle.fle_stream.specs.Ended.{DrawsSurely, Ended, Settles, World, WritesAll, WritesSurely}
use Rattle.fle_stream.specs.declared.end.End.{End}
use Rattle.fle_stream.specs.declared.status.Status.{Status}
use Rattle.fle_stream.specs.declared.status.Status.TheVariants as statuses
use Rattle.fle_stream.specs.declared.why.Finish.TheVariants as finishes
use Rattle.fle_stream.specs.declared.why.Why.TheVariants as whys
use Rattle.fle_words.specs.Words.{form_of}
use Rattle.fle_runner.specs.HeadlineFiles.{OpensAll, SealsAll}
use Rattle.fle_runner.specs.HeadlinePairs.{SealsPairs}
use Rattle.fle_runner.specs.HeadlineRewrap.{RewrapsVault}
use Rattle.fle_runner.specs.Verbs.{AreShown, files_of, pace_for, task}

-- what the verb of these words did at this time, with these objects before and after it, and how it ended
pub record DoesAsked (time : ℕ) (given : List (List ℕ)) (before after : Objects) (end : End) : Type 0 where
  -- all that is so of every run of a verb: of their task, over their files
  pub run : Acted (AreShown (form_of given)) (task time given) (pace_for (form_of given)) before after end
  -- it ends by its words exactly where they have no form
  pub unformed : form_of given ≡ None → end.why ≡ whys.Finished finishes.Words
  pub formed : end.why ≡ whys.Finished finishes.Words → form_of given ≡ None
  -- no file is asked for but those that the words name
  pub asked : AsksOnly (files_of (form_of given)) before.files after.files

-- what a run of the program keeps that was given these words at this time, had these objects before and after it, and
-- ended with this status
pub record Keeps (time : ℕ) (given : List (List ℕ)) (before after : World) (status : Status) : Type 0 where
  -- one ending explains the status, the line, what was written and drawn and what the input has left
  pub ended : Ended (AreShown (form_of given)) (task time given) (pace_for (form_of given)) before after status
  -- status 2 is exactly that of words without a form
  pub words : (status ≡ statuses.Words → form_of given ≡ None) × (form_of given ≡ None → status ≡ statuses.Words)
  -- no file is asked for but those that the words name
  pub asked : AsksOnly (files_of (form_of given)) before.files after.files
  -- where no count rose and memory lasted, the status is that of the outcome
  pub settled : Settles (task time given) before after status
  -- where the status is no fault and no want of memory, every output was written whole
  pub whole : WritesAll (task time given) before after status
  -- `fle encrypt`: every accepted command was sealed, and nothing else changed
  pub encrypts : SealsAll given before after status
  -- `fle encrypt-with`: every accepted command whose reply is right was sealed, and nothing else changed
  pub encrypts_with : SealsPairs given before after status
  -- `fle decrypt` of what was so sealed: the commands were written, byte for byte
  pub decrypts : OpensAll given before after status
  -- `fle rewrap`: with status 0 the vault was written under the new master key, and loads as the same keys
  pub rewraps : RewrapsVault time given before after status
  -- 5 never comes where the input and the folder are assured
  pub read_sure : before.input.assured ≡ true → before.files.assured ≡ true → status ≡ statuses.ReadFault → ⊥
  -- nor 6 where the output is assured of all that is to be written
  pub write_sure : WritesSurely (task time given) before status
  -- nor 7 where the source of blocks is assured of all that are to be drawn
  pub entropy_sure : DrawsSurely (task time given) before status
