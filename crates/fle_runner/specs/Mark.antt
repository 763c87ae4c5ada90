-- `mark DB SCHEMAS`: the marking reply to each command.
use Rattle.std.specs.Prelude.{ℕ, Option, List}
use Rattle.bson_tree.specs.Tree.{Items}
use Rattle.encrypt_schema.specs.Language.Collection.{Collection}
use Rattle.fle_engine.specs.Replies.{mark_ruling}
use Rattle.fle_stream.specs.Plan.{Verdict}
use Rattle.fle_stream.specs.Task.{Task, each}
use Rattle.fle_files.specs.Setup.{with_infos}
use Rattle.fle_runner.specs.Verdicts.{as_verdict}

-- what a command of this database comes to under these infos
unfoldable pub mark_verdict : List Collection → List ℕ → Items → Verdict
mark_verdict infos db c = as_verdict c (mark_ruling infos db c)

-- each command is marked; the file of collection infos is the first file of the words
abbrev pub mark_task : List ℕ → Option (List ℕ) → Task
mark_task db file = with_infos 1 file (λ infos. each (mark_verdict infos db))
