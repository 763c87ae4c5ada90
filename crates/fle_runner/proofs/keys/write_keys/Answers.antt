-- The lines are written, or there is no memory for them.
use Rattle.std.proofs.Common.{[], refl, ◌∙◌, length, ap}
use Rattle.fle_outside.proofs.Drawings.{draws_none}
use Rattle.fle_runner.specs.Keys.{key_lines}
use Rattle.fle_runner.specs.Verdicts.{plain_plan}
use Rattle.fle_stream.proofs.Acts.{acts_memory}
use Rattle.fle_runner.proofs.keys.write_keys.Goals as goal

pub returns-in-Ok-clause-run : goal.returns-in-Ok-clause-run
returns-in-Ok-clause-run g c = λ input files e.
    let lines = c.deref.ensures.value ∙ c.in-Ok.ensures.lines in
    c.write_made.ensures.run (plain_plan (key_lines c.args.keys.now)) [] input files e e refl lines (ap length lines)
    (draws_none e)

pub returns-in-Err-clause-run : goal.returns-in-Err-clause-run
returns-in-Err-clause-run g c = λ input files e. rw c.unread.ensures.unread acts_memory
