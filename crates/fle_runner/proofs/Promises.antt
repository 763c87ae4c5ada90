-- What the verb of the words did, and what is told of its end, is what a run of the program keeps.
use Rattle.std.proofs.Common.{◌≡◌, ◌∙◌, ℕ, List, [], Some, None, Result, ap, refl, subst, sym}
use Rattle.fle_outside.specs.Seen.{AsksOnly}
use Rattle.fle_outside.specs.Writing.{WritesWhole}
use Rattle.fle_outside.specs.declared.answers.Failed.{Failed}
use Rattle.fle_stream.specs.Acted.{Acted, Objects}
use Rattle.fle_stream.specs.Codes.{status_of, status_of_finish}
use Rattle.fle_stream.specs.Ended.{IsSettled, World, objects_of}
use Rattle.fle_stream.specs.Line.{line_of}
use Rattle.fle_stream.specs.Outcome.{Outcome}
use Rattle.fle_stream.specs.declared.end.End.{End}
use Rattle.fle_stream.specs.declared.status.Status.{Status}
use Rattle.fle_stream.specs.declared.status.Status.TheVariants as statuses
use Rattle.fle_stream.specs.declared.why.Cut.TheVariants as cuts
use Rattle.fle_stream.specs.declared.why.Finish.TheVariants as finishes
use Rattle.fle_stream.specs.declared.why.Why.{Why}
use Rattle.fle_stream.specs.declared.why.Why.TheVariants as whys
use Rattle.fle_stream.proofs.Endings.{settled_of, settled_status, whole_of}
use Rattle.fle_words.specs.Words.{Form, form_of}
use Rattle.fle_runner.specs.Promises.{DoesAsked, Keeps}
use Rattle.fle_runner.specs.ReadBack.{stream}
use Rattle.fle_runner.specs.Verbs.{AreShown, files_of, pace_for, task_of}
use Rattle.fle_runner.proofs.Asked.{acts_asked, asks_asked, of_entropy, of_read, of_write, told_shown}
use Rattle.fle_runner.proofs.HeadlineFiles.{decrypts, encrypts, encrypts_first, opened_gains, opens_held}
use Rattle.fle_runner.proofs.HeadlineFronts.{opens_first}
use Rattle.fle_runner.proofs.HeadlinePairs.{encrypts_pairs, encrypts_pairs_first}
use Rattle.fle_runner.proofs.Rewraps.{rewrap_unread, rewrites}
use Rattle.fle_runner.proofs.VerbEnds.{unasked}

abbrev NotWords : Status → Type 0
NotWords statuses.Words = ⊥
NotWords status = Unit {0}

-- with 2 the words have no form
pub of_words : (why : Why) → status_of why ≡ statuses.Words → why ≡ whys.Finished finishes.Words
of_words (whys.Finished finishes.Done) at = absurd (subst NotWords at tt)
of_words (whys.Finished (finishes.Refused reason place)) at = absurd (subst NotWords at tt)
of_words (whys.Finished (finishes.Malformed fault)) at = absurd (subst NotWords at tt)
of_words (whys.Finished (finishes.Limit bound)) at = absurd (subst NotWords at tt)
of_words (whys.Finished finishes.Words) at = refl
of_words (whys.Finished (finishes.Setup file fault document)) at = absurd (subst NotWords at tt)
of_words (whys.Finished (finishes.Key reason document)) at = absurd (subst NotWords at tt)
of_words (whys.Cut cuts.Folder) at = absurd (subst NotWords at tt)
of_words (whys.Cut cuts.Input) at = absurd (subst NotWords at tt)
of_words (whys.Cut cuts.Output) at = absurd (subst NotWords at tt)
of_words (whys.Cut cuts.Entropy) at = absurd (subst NotWords at tt)
of_words (whys.Cut cuts.Memory) at = absurd (subst NotWords at tt)

-- a run of words that have this form, whose verb doesn't end by its words
pub does_form : {form : Form} {given : List (List ℕ)} {before after : Objects} {end : End} (time : ℕ)
    → form_of given ≡ Some form
    → Acted (AreShown (Some form)) (task_of time (Some form)) (pace_for (Some form)) before after end
    → (end.why ≡ whys.Finished finishes.Words → ⊥)
    → AsksOnly (files_of (Some form)) before.files after.files
    → DoesAsked time given before after end
does_form time is run formed asks = record {
  run = acts_asked time is run;
  unformed = λ none. absurd (unasked is none);
  formed = λ at. absurd (formed at);
  asked = asks_asked is asks;
}

-- and of words that have none
pub does_none : {given : List (List ℕ)} {before after : Objects} {end : End} (time : ℕ)
    → form_of given ≡ None
    → Acted (AreShown None) (task_of time None) (pace_for None) before after end
    → end.why ≡ whys.Finished finishes.Words
    → AsksOnly (files_of None) before.files after.files
    → DoesAsked time given before after end
does_none time is run at asks = record {
  run = acts_asked time is run;
  unformed = λ _. at;
  formed = λ _. is;
  asked = asks_asked is asks;
}

-- the status and the line are those of the end
pub keeps_of : {time : ℕ} {given : List (List ℕ)} {before after : World} {end : End} {status : Status}
    {reported : Result (Unit {0}) Failed}
    → DoesAsked time given (objects_of before) (objects_of after) end
    → status ≡ status_of end.why
    → WritesWhole before.diag after.diag reported (line_of end.why end.number)
    → Keeps time given before after status
keeps_of {time = time} {given = given} {before = before} {end = end} {reported = reported} does is says =
    let run = does.run in
    let shown = told_shown (form_of given) before.files in record {
      ended = record { end = end; answer = is; run = run; reported = reported; says = says };
      words = (λ at. does.formed (of_words end.why (sym is ∙ at)), λ none. is ∙ ap status_of (does.unformed none));
      asked = does.asked;
      settled = λ all told has over unfailed lasted.
          settled_of is (run.did all told (shown all has) over).ran run.in_cause run.folder_cause run.out_cause
          run.entropy_cause unfailed lasted;
      whole = λ all told has over settled.
          whole_of (run.did all told (shown all has) over).ran (subst (λ (s : Status). IsSettled s) is settled);
      encrypts = λ all told x has over asks bytes.
          let did = run.did all told (shown all has) over in (
            encrypts_first time given all told x asks bytes is did,
            λ settled. encrypts time given all told x _ _ _ _ asks bytes
                (whole_of did.ran (subst (λ (s : Status). IsSettled s) is settled)),
          );
      encrypts_with = λ all told x has over asks bytes.
          let did = run.did all told (shown all has) over in (
            encrypts_pairs_first time given all told x asks bytes is did,
            λ settled. encrypts_pairs time given all told x _ _ _ _ asks bytes
                (whole_of did.ran (subst (λ (s : Status). IsSettled s) is settled)),
          );
      decrypts = λ all x commands blocks sealed has over asks each readable few.
          let back = decrypts time given all x commands blocks sealed asks each readable few in
          let ran = (run.did all (stream sealed) (shown all has) over).ran in (
            opens_first commands sealed back is ran,
            λ settled.
                let ended = subst (λ (s : Status). IsSettled s) is settled in (
                  is ∙ (settled_status ran ended ∙ ap (λ (o : Outcome). status_of_finish o.finish) back),
                  opened_gains x commands blocks sealed _ _ _ _ _
                      (opens_held all asks.keys asks.master x asks.files) each readable back (whole_of ran ended),
                ),
          );
      rewraps = λ all x has asks bytes done.
          rewrites time given all x asks bytes
          (run.unread all [] (shown all has) (rewrap_unread time given all x asks)) (sym is ∙ done);
      read_sure = λ input files at. of_read end.why _ (run.folder_sure files) (run.in_sure input) (sym is ∙ at);
      write_sure = λ all told has over enough at.
          run.out_sure all told (shown all has) over enough (of_write end.why (sym is ∙ at));
      entropy_sure = λ all told has over enough at.
          run.entropy_sure all told (shown all has) over enough (of_entropy end.why (sym is ∙ at));
    }
