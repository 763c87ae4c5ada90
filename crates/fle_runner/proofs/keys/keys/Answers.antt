-- The file is loaded, and then its keys are told.
use Rattle.fle_outside.specs.Files.{Files, file_of}
use Rattle.fle_runner.specs.Keys.{key_lines}
use Rattle.fle_files.specs.Setup.{with_vault}
use Rattle.fle_runner.specs.Verdicts.{plain_plan}
use Rattle.fle_stream.specs.Task.{makes}
use Rattle.fle_stream.proofs.Acts.{acts_behind}
use Rattle.fle_files.proofs.Loaded.{acts_stop}
use Rattle.fle_runner.proofs.Vaults.{text_unfailed}
use Rattle.fle_runner.proofs.keys.keys.Goals as goal

pub returns-in-Ok-clause-run : goal.returns-in-Ok-clause-run
returns-in-Ok-clause-run g c = λ input e.
    acts_behind (makes (plain_plan (key_lines c.in-Ok.vault)))
    (λ all has. c.in-Ok.ensures.leads all has (λ keys. makes (plain_plan (key_lines keys))))
    (text_unfailed _ c.write_keys.ensures.kind)
    (λ files. rw c.keys.ensures.same at (c.write_keys.ensures.run input files e))

pub returns-in-Err-clause-run : goal.returns-in-Err-clause-run
returns-in-Err-clause-run g c = λ input e.
    rw c.unread.ensures.unread
    (acts_stop (λ (all : Files). with_vault 1 (file_of all c.args.vault.now))
    (λ keys. makes (plain_plan (key_lines keys))) c.in-Err.why c.in-Err.ensures.kind c.in-Err.ensures.leads
    c.in-Err.ensures.cause (λ sure. (c.in-Err.ensures.sure sure).0))
