-- The files are loaded, and then the vault is made anew.
use Rattle.fle_outside.specs.Files.{Files, file_of}
use Rattle.fle_runner.specs.Rewrap.{rewrap_held, with_rewrap}
use Rattle.fle_stream.proofs.Acts.{acts_behind}
use Rattle.fle_files.proofs.Loaded.{acts_stop}
use Rattle.fle_runner.proofs.Rewraps.{vault_unfailed}
use Rattle.fle_runner.proofs.rewrap.rewrap.Goals as goal

pub returns-in-Ok-clause-run : goal.returns-in-Ok-clause-run
returns-in-Ok-clause-run g c = λ input.
    acts_behind (rewrap_held c.args.words.time c.in-Ok.held)
    (λ all has. c.in-Ok.ensures.leads all has (rewrap_held c.args.words.time))
    (vault_unfailed _ c.write_rewrapped.ensures.kind) (λ files. c.write_rewrapped.ensures.run input files)

pub returns-in-Err-clause-run : goal.returns-in-Err-clause-run
returns-in-Err-clause-run g c = λ input.
    let words = c.args.words in
    rw c.unread.ensures.unread
    (acts_stop (λ (all : Files). with_rewrap (file_of all words.from.now) (file_of all words.to.now)
    (file_of all words.vault.now)) (rewrap_held words.time) c.in-Err.why c.in-Err.ensures.kind c.in-Err.ensures.leads
    c.in-Err.ensures.cause c.in-Err.ensures.sure)
