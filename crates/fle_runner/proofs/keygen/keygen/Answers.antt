-- The file is loaded, and then a key is made.
use Rattle.std.proofs.Common.{map}
use Rattle.std.specs.Prelude.{string_bytes}
use Rattle.fle_outside.specs.Files.{Files, file_of}
use Rattle.fle_runner.specs.Keygen.{keygen_plan}
use Rattle.fle_files.specs.Setup.{with_master}
use Rattle.fle_stream.specs.Task.{makes}
use Rattle.fle_stream.proofs.Acts.{acts_behind}
use Rattle.fle_files.proofs.Loaded.{acts_stop}
use Rattle.fle_runner.proofs.NewKeys.{key_unfailed}
use Rattle.fle_runner.proofs.keygen.keygen.Goals as goal

pub returns-in-Ok-clause-run : goal.returns-in-Ok-clause-run
returns-in-Ok-clause-run g c = λ input.
    let words = c.args.words in
    acts_behind (makes (keygen_plan (map string_bytes words.names.now) words.time c.in-Ok.master))
    (λ all has. c.in-Ok.ensures.leads all has
    (λ master. makes (keygen_plan (map string_bytes words.names.now) words.time master)))
    (key_unfailed _ c.make_key.ensures.kind) (λ files. c.make_key.ensures.run input files)

pub returns-in-Err-clause-run : goal.returns-in-Err-clause-run
returns-in-Err-clause-run g c = λ input.
    let words = c.args.words in
    rw c.unread.ensures.unread
    (acts_stop (λ (all : Files). with_master 1 (file_of all words.master.now))
    (λ master. makes (keygen_plan (map string_bytes words.names.now) words.time master)) c.in-Err.why
    c.in-Err.ensures.kind c.in-Err.ensures.leads c.in-Err.ensures.cause (λ sure. (c.in-Err.ensures.sure sure).0))
