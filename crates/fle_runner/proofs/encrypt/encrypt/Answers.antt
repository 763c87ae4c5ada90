-- The files are loaded, and then the stream is judged.
use Rattle.std.proofs.Common.{◌∙◌, refl, subst, sym}
use Rattle.context_machine.specs.Rings.{finder}
use Rattle.fle_outside.specs.Files.{Files, file_of}
use Rattle.fle_stream.specs.Files.{IsOfFiles}
use Rattle.fle_stream.specs.Task.{each}
use Rattle.fle_stream.specs.Turn.{IsOfStream}
use Rattle.fle_stream.proofs.Acts.{acts_behind, acts_memory, folder_no}
use Rattle.fle_files.proofs.Loaded.{acts_stop}
use Rattle.fle_runner.proofs.Engines.{seals_as}
use Rattle.fle_runner.proofs.VerbEnds.{stream_reads, uncut}
use Rattle.fle_runner.specs.Encrypt.{encrypt_verdict, with_sealing}
use Rattle.fle_runner.proofs.encrypt.encrypt.Goals as goal

pub returns-in-Err : goal.returns-in-Err
returns-in-Err g c =
    let words = c.args.words in
    rw c.unread.ensures.unread (record {
      run =
          acts_stop (λ (all : Files). with_sealing (file_of all words.keys.now) (file_of all words.schemas.now)
          (file_of all words.master.now)) (λ held. each (encrypt_verdict
          (finder held.keys held.master) held.infos words.db.now)) c.in-Err.why c.in-Err.ensures.kind
          c.in-Err.ensures.leads c.in-Err.ensures.cause c.in-Err.ensures.sure;
      asked = c.in-Err.ensures.asked;
      formed = λ at. subst IsOfFiles at c.in-Err.ensures.kind;
      untouched = λ _. (refl, refl, refl);
    })

pub returns-in-Ok-of : goal.returns-in-Ok-of
returns-in-Ok-of g c =
    let ends = c.judge_stream.ensures in
    let held = c.in-Ok.held in
    let db = c.args.words.db.now in
    let engine = c.in-Ok-of.engine in
    let rules = c.in-Ok-of.ensures.rules in
    let same = seals_as held db engine (rules.0 ∙ c.as_bytes.ensures.value, rules.1) c.in-Ok-of.ensures.secrets in
    record {
      run =
          acts_behind (each (encrypt_verdict (finder engine.opener.keys engine.opener.cache.master) engine.marker.infos
          engine.marker.db.items)) (λ all has. c.in-Ok.ensures.leads all has (λ held. each (encrypt_verdict
          (finder held.keys held.master) held.infos db)) ∙ same) (folder_no _ ends.kind) ends.run;
      asked = c.in-Ok.ensures.asked;
      formed = λ at. subst IsOfStream at ends.kind;
      untouched = λ none. absurd (stream_reads _ ends.kind none);
    }

pub returns-in-Err-of : goal.returns-in-Err-of
returns-in-Err-of g c =
    rw c.unread-in-Err-of.ensures.unread
    (record {
      run = acts_memory;
      asked = c.in-Ok.ensures.asked;
      formed = λ at. uncut (sym at);
      untouched = λ none. absurd none;
    })
