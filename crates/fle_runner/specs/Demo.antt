-- `demo DB N`: one line, which sums up N commands that were sealed and opened again.
use Rattle.std.specs.Prelude.{ℕ, List}
use Rattle.fle_demo.specs.Sums.{demo_text}
use Rattle.fle_stream.specs.Task.{Task, makes}
use Rattle.fle_runner.specs.Verdicts.{plain_plan}

-- the line is written; no file is read and no block drawn
abbrev pub demo_task : List ℕ → ℕ → Task
demo_task db n = makes (plain_plan (demo_text db n))
