-- `encrypt DB KEYS SCHEMAS MASTER`: each command with its protected values sealed.
use Rattle.std.specs.Prelude.{ℕ, Option, List}
use Rattle.bson_tree.specs.Tree.{Items}
use Rattle.context_machine.specs.Rings.{Finder, finder}
use Rattle.encrypt_schema.specs.Language.Collection.{Collection}
use Rattle.fle_engine.specs.Sealing.{seal_ruling}
use Rattle.fle_stream.specs.Plan.{Verdict}
use Rattle.fle_stream.specs.Task.{Task, each}
use Rattle.fle_files.specs.Setup.{with_infos, with_master, with_vault}
use Rattle.fle_runner.specs.declared.encrypt.SealingFiles.{SealingFiles}
use Rattle.fle_runner.specs.Verdicts.{as_verdict}
pub use Rattle.fle_engine.specs.Rulings.{at_front}

-- what a command of this database comes to under these keys and infos
unfoldable pub encrypt_verdict : Finder → List Collection → List ℕ → Items → Verdict
encrypt_verdict keys infos db c = as_verdict c (seal_ruling keys infos db c)

-- the key vault, the collection infos and the master key are the files of the words, in order
abbrev pub with_sealing : Option (List ℕ) → Option (List ℕ) → Option (List ℕ) → (SealingFiles → Task) → Task
with_sealing keys schemas master next =
    with_vault 1 keys (λ vault. with_infos 2 schemas (λ infos. with_master 3 master
    (λ key. next (record { keys = vault; infos = infos; master = key }))))

-- each command is sealed
abbrev pub encrypt_task : List ℕ → Option (List ℕ) → Option (List ℕ) → Option (List ℕ) → Task
encrypt_task db keys schemas master =
    with_sealing keys schemas master (λ held. each (encrypt_verdict (finder held.keys held.master) held.infos db))
