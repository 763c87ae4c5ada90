-- What each form of the words asks for, with the files that there are.
use Rattle.std.specs.Prelude.{ℕ, Option, Some, None, List, [], ◌∷◌}
use Rattle.fle_outside.specs.Files.{Files, file_of}
use Rattle.fle_outside.specs.Seen.{FolderSeen}
use Rattle.fle_stream.specs.Acted.{AreAny, AreTold}
use Rattle.fle_stream.specs.Task.{Task, fails, one_document, two_documents}
use Rattle.fle_stream.specs.Turn.{Pace}
use Rattle.fle_words.specs.Words.{Form, mark, show, keys, keygen, encrypt, encrypt_with, decrypt, demo, rewrap}
use Rattle.fle_words.specs.Words.{form_of}
use Rattle.fle_runner.specs.Mark.{mark_task}
use Rattle.fle_runner.specs.Show.{show_task}
use Rattle.fle_runner.specs.Keys.{keys_task}
use Rattle.fle_runner.specs.Keygen.{keygen_task}
use Rattle.fle_runner.specs.Encrypt.{encrypt_task}
use Rattle.fle_runner.specs.EncryptWith.{encrypt_with_task}
use Rattle.fle_runner.specs.Decrypt.{decrypt_task}
use Rattle.fle_runner.specs.Demo.{demo_task}
use Rattle.fle_runner.specs.Rewrap.{rewrap_task}
use Rattle.fle_stream.specs.declared.why.Finish.TheVariants as finishes

abbrev pub task_for : ℕ → Form → Files → Task
task_for now (mark db schemas) files = mark_task db (file_of files schemas)
task_for now show files = show_task
task_for now (keys vault) files = keys_task (file_of files vault)
task_for now (keygen master names) files = keygen_task names now (file_of files master)
task_for now (encrypt db vault schemas master) files =
    encrypt_task db (file_of files vault) (file_of files schemas) (file_of files master)
task_for now (encrypt_with db vault schemas master) files =
    encrypt_with_task db (file_of files vault) (file_of files schemas) (file_of files master)
task_for now (decrypt vault master) files = decrypt_task (file_of files vault) (file_of files master)
task_for now (demo db n) files = demo_task db n
task_for now (rewrap from to vault) files =
    rewrap_task now (file_of files from) (file_of files to) (file_of files vault)

-- what the words ask for: a task, or the end of a run whose words have no form
abbrev pub task_of : ℕ → Option Form → Files → Task
task_of now None files = fails finishes.Words
task_of now (Some form) files = task_for now form files

-- the files that a run of these words goes by: those that the folder tells; `show`, `demo` and words without a form go
-- by none
abbrev pub AreShown : Option Form → FolderSeen → Files → Type 0
AreShown None files all = AreAny files all
AreShown (Some show) files all = AreAny files all
AreShown (Some (demo db n)) files all = AreAny files all
AreShown (Some form) files all = AreTold files all

-- the names of files in the words, in the order in which they are read
abbrev pub files_of : Option Form → List (List ℕ)
files_of None = []
files_of (Some (mark db schemas)) = schemas ∷ []
files_of (Some show) = []
files_of (Some (keys vault)) = vault ∷ []
files_of (Some (keygen master names)) = master ∷ []
files_of (Some (encrypt db vault schemas master)) = vault ∷ schemas ∷ master ∷ []
files_of (Some (encrypt_with db vault schemas master)) = vault ∷ schemas ∷ master ∷ []
files_of (Some (decrypt vault master)) = vault ∷ master ∷ []
files_of (Some (demo db n)) = []
files_of (Some (rewrap from to vault)) = from ∷ to ∷ vault ∷ []

-- how they read the input: one document a step, or the two of a pair
abbrev pub pace_for : Option Form → Pace
pace_for (Some (encrypt_with db vault schemas master)) = two_documents
pace_for form = one_document

-- what the words and the files ask for at this time, in milliseconds since 1970 as 64 bits
abbrev pub task : ℕ → List (List ℕ) → Files → Task
task now words files = task_of now (form_of words) files
