-- How a text was written that the program answers by itself.
use Rattle.std.specs.Prelude.{◌≡◌, ℕ, Result, Ok, Err, List}
use Rattle.fle_outside.specs.Seen.{SinkSeen}
use Rattle.fle_outside.specs.Writing.{WritesWhole}
use Rattle.fle_outside.specs.declared.answers.Failed.{Failed}
use Rattle.fle_stream.specs.Codes.{status_of}
use Rattle.fle_stream.specs.Line.{line_of}
use Rattle.fle_stream.specs.declared.status.Status.{Status}
use Rattle.fle_stream.specs.declared.why.Finish.TheVariants as finishes
use Rattle.fle_stream.specs.declared.why.Cut.TheVariants as cuts
use Rattle.fle_stream.specs.declared.why.Why.{Why}
use Rattle.fle_stream.specs.declared.why.Why.TheVariants as whys

-- the end of a program that only writes a text
abbrev pub text_why : Result (Unit {0}) Failed → Why
text_why (Ok _) = whys.Finished finishes.Done
text_why (Err _) = whys.Cut cuts.Output

-- the text was written, or a part of it; the status and the line say which
pub record WritesText (out out_after diag diag_after : SinkSeen) (text : List ℕ) (status : Status) : Type 0 where
  pub wrote : Result (Unit {0}) Failed
  pub output : WritesWhole out out_after wrote text
  pub answer : status ≡ status_of (text_why wrote)
  pub reported : Result (Unit {0}) Failed
  pub says : WritesWhole diag diag_after reported (line_of (text_why wrote) 0)
