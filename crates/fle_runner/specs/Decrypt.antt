-- `decrypt KEYS MASTER`: each document with its payloads opened.
use Rattle.std.specs.Prelude.{ℕ, Option, List}
use Rattle.bson_tree.specs.Tree.{Items}
use Rattle.context_machine.specs.Rings.{ring}
use Rattle.doc_rewrite.specs.Opened.{Keyring}
use Rattle.fle_engine.specs.Opening.{open_ruling}
use Rattle.fle_stream.specs.Plan.{Verdict}
use Rattle.fle_stream.specs.Task.{Task, each}
use Rattle.fle_files.specs.Setup.{with_master, with_vault}
use Rattle.fle_runner.specs.declared.decrypt.OpeningFiles.{OpeningFiles}
use Rattle.fle_runner.specs.Verdicts.{as_verdict}

-- what a document comes to under these keys
unfoldable pub decrypt_verdict : Keyring → Items → Verdict
decrypt_verdict keys d = as_verdict d (open_ruling keys d)

-- the key vault and the master key are the files of the words, in order
abbrev pub with_opening : Option (List ℕ) → Option (List ℕ) → (OpeningFiles → Task) → Task
with_opening keys master next =
    with_vault 1 keys (λ vault. with_master 2 master (λ key. next (record { keys = vault; master = key })))

-- each document is opened
abbrev pub decrypt_task : Option (List ℕ) → Option (List ℕ) → Task
decrypt_task keys master =
    with_opening keys master (λ held. each (decrypt_verdict (ring held.keys held.master)))
