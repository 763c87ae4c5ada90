-- The line is written, or there is no memory for it.
use Rattle.std.proofs.Common.{◌∙◌, [], ℕ, List, ap, length, refl}
use Rattle.fle_outside.proofs.Drawings.{draws_none}
use Rattle.fle_demo.specs.Sums.{demo_text}
use Rattle.fle_runner.specs.Verdicts.{plain_plan}
use Rattle.fle_stream.proofs.Acts.{acts_memory}
use Rattle.fle_runner.proofs.demo.demo.Goals as goal

pub returns-in-Ok-clause-run : goal.returns-in-Ok-clause-run
returns-in-Ok-clause-run g c = λ input files e.
    let text = c.deref.ensures.value ∙ (c.in-Ok.ensures.text
    ∙ ap (λ (db : List ℕ). demo_text db c.args.n) c.as_bytes.ensures.value) in
    c.write_made.ensures.run (plain_plan (demo_text c.args.db.now c.args.n)) [] input files e e refl text
    (ap length text) (draws_none e)

pub returns-in-Err-clause-run : goal.returns-in-Err-clause-run
returns-in-Err-clause-run g c = λ input files e. rw c.unread.ensures.unread acts_memory
