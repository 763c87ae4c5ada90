-- The files are loaded, and then the stream is judged.
use Rattle.std.proofs.Common.{◌∙◌, refl, subst, sym}
use Rattle.context_machine.specs.Rings.{ring}
use Rattle.fle_outside.specs.Files.{Files, file_of}
use Rattle.fle_stream.specs.Files.{IsOfFiles}
use Rattle.fle_stream.specs.Task.{each}
use Rattle.fle_stream.specs.Turn.{IsOfStream}
use Rattle.fle_stream.proofs.Acts.{acts_behind, acts_memory, folder_no}
use Rattle.fle_stream.proofs.Turned.{memory_not_entropy}
use Rattle.fle_files.proofs.Loaded.{acts_stop}
use Rattle.fle_runner.proofs.Engines.{opens_as}
use Rattle.fle_runner.proofs.VerbEnds.{stream_reads, uncut}
use Rattle.fle_runner.specs.Decrypt.{decrypt_verdict, with_opening}
use Rattle.fle_runner.proofs.decrypt.decrypt.Goals as goal

pub returns-in-Err : goal.returns-in-Err
returns-in-Err g c =
    rw c.unread.ensures.unread (record {
      run = λ e.
          acts_stop (λ (all : Files). with_opening (file_of all c.args.keys.now) (file_of all c.args.master.now))
          (λ held. each (decrypt_verdict (ring held.keys held.master))) c.in-Err.why c.in-Err.ensures.kind
          c.in-Err.ensures.leads c.in-Err.ensures.cause c.in-Err.ensures.sure;
      asked = c.in-Err.ensures.asked;
      formed = λ at. subst IsOfFiles at c.in-Err.ensures.kind;
      untouched = λ _. (refl, refl);
      undrawn = λ at. subst IsOfFiles at c.in-Err.ensures.kind;
    })

pub returns-in-Ok-new : goal.returns-in-Ok-new
returns-in-Ok-new g c =
    let ends = c.judge_without_blocks.ensures in
    let held = c.in-Ok.held in
    let same = opens_as held c.in-Ok-new.opener c.in-Ok-new.ensures.made in
    record {
      run = λ e.
          acts_behind (each (decrypt_verdict (ring c.in-Ok-new.opener.keys c.in-Ok-new.opener.cache.master)))
          (λ all has. c.in-Ok.ensures.leads all has (λ held. each (decrypt_verdict
          (ring held.keys held.master))) ∙ same) (folder_no _ ends.kind) (λ files. ends.run files e);
      asked = c.in-Ok.ensures.asked;
      formed = λ at. subst IsOfStream at ends.kind;
      untouched = λ none. absurd (stream_reads _ ends.kind none);
      undrawn = ends.undrawn;
    }

pub returns-in-Err-new : goal.returns-in-Err-new
returns-in-Err-new g c =
    rw c.unread-in-Err-new.ensures.unread
    (record {
      run = λ e. acts_memory;
      asked = c.in-Ok.ensures.asked;
      formed = λ at. uncut (sym at);
      untouched = λ none. absurd none;
      undrawn = memory_not_entropy;
    })
