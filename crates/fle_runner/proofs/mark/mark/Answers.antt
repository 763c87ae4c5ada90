-- The file is loaded, and then the stream is judged.
use Rattle.std.proofs.Common.{◌∙◌, refl, subst, sym}
use Rattle.fle_outside.specs.Files.{Files, file_of}
use Rattle.fle_files.specs.Setup.{with_infos}
use Rattle.fle_stream.specs.Files.{IsOfFiles}
use Rattle.fle_stream.specs.Task.{each}
use Rattle.fle_stream.specs.Turn.{IsOfStream}
use Rattle.fle_stream.proofs.Acts.{acts_behind, acts_memory, folder_no}
use Rattle.fle_stream.proofs.Turned.{memory_not_entropy}
use Rattle.fle_files.proofs.Loaded.{acts_stop}
use Rattle.fle_runner.specs.Mark.{mark_verdict}
use Rattle.fle_runner.proofs.Engines.{marks_as}
use Rattle.fle_runner.proofs.VerbEnds.{stream_reads, uncut}
use Rattle.fle_runner.proofs.mark.mark.Goals as goal

pub returns-in-Ok-new : goal.returns-in-Ok-new
returns-in-Ok-new g c =
    let ends = c.judge_without_blocks.ensures in
    let made = c.in-Ok-new.ensures.made in
    let same =
    marks_as c.in-Ok.infos c.args.db.now c.in-Ok-new.marker (made.0 ∙ c.as_bytes.ensures.value, made.1) in
    record {
      run = λ e.
          acts_behind (each (mark_verdict c.in-Ok-new.marker.infos c.in-Ok-new.marker.db.items))
          (λ all has. c.in-Ok.ensures.leads all has (λ infos. each (mark_verdict infos c.args.db.now)) ∙ same)
          (folder_no _ ends.kind) (λ files. ends.run files e);
      asked = c.in-Ok.ensures.asked;
      formed = λ at. subst IsOfStream at ends.kind;
      untouched = λ none. absurd (stream_reads _ ends.kind none);
      undrawn = ends.undrawn;
    }

pub returns-in-Err : goal.returns-in-Err
returns-in-Err g c =
    rw c.unread.ensures.unread (record {
      run = λ e.
          acts_stop (λ (all : Files). with_infos 1 (file_of all c.args.schemas.now)) (λ infos. each
          (mark_verdict infos c.args.db.now)) c.in-Err.why c.in-Err.ensures.kind c.in-Err.ensures.leads
          c.in-Err.ensures.cause (λ sure. (c.in-Err.ensures.sure sure).0);
      asked = c.in-Err.ensures.asked;
      formed = λ at. subst IsOfFiles at c.in-Err.ensures.kind;
      untouched = λ _. (refl, refl);
      undrawn = λ at. subst IsOfFiles at c.in-Err.ensures.kind;
    })

pub returns-in-Err-new : goal.returns-in-Err-new
returns-in-Err-new g c =
    rw c.unread-in-Err-new.ensures.unread
    (record {
      run = λ e. acts_memory;
      asked = c.in-Ok.ensures.asked;
      formed = λ at. uncut (sym at);
      untouched = λ none. absurd none;
      undrawn = memory_not_entropy;
    })
