-- The clauses of a run, put together.
use Rattle.std.proofs.Common.{◌≡◌, ℕ, ◌≤◌, true, false, Option, Some, List, refl, subst, arith, sym}
use Rattle.std.proofs.Common.{ap, ◌∙◌}
use Rattle.std.proofs.lemmas.Bool.{false≢true}
use Rattle.bson_tree.specs.Tree.{Items}
use Rattle.fle_outside.specs.Counts.{Rose}
use Rattle.fle_outside.specs.Files.{Files}
use Rattle.fle_outside.specs.Seen.{SourceSeen, FolderSeen, SinkSeen, EntropySeen}
use Rattle.fle_stream.specs.Acted.{Acted, EndsAs, AreAny, objects}
use Rattle.fle_stream.specs.Did.{Did}
use Rattle.fle_stream.specs.Outcome.{Outcome}
use Rattle.fle_stream.specs.Plan.{DrawsNone, Plan, Verdict, draws_of, size_of}
use Rattle.fle_stream.specs.Run.{Ran}
use Rattle.fle_stream.specs.Task.{Task, fails, makes, each, pairs, course_of, outcome_of, reads_input, spans_of}
use Rattle.fle_stream.specs.Turn.{IsOfStream, Pace}
use Rattle.fle_stream.specs.declared.end.End.{End}
use Rattle.fle_stream.specs.declared.why.Cut.TheVariants as cuts
use Rattle.fle_stream.specs.declared.why.Finish.{Finish}
use Rattle.fle_stream.specs.declared.why.Why.{Why}
use Rattle.fle_stream.specs.declared.why.Why.TheVariants as whys
use Rattle.fle_stream.proofs.Programs.{did_fail, did_memory, did_task, ends_each, ends_pairs, ends_task}
use Rattle.fle_stream.proofs.Turned.{finished_no, memory_not_folder}
use Rattle.fle_stream.proofs.Undrawn.{did_undrawing}

-- ---- a task that reads the input

course_is : (t : Task) (told : List ℕ) → course_of t 1 0 told ≡ outcome_of t told
course_is (fails finish) told = refl
course_is (makes plan) told = refl
course_is (each v) told = refl
course_is (pairs w) told = refl

-- what is enough for its outcome is for its course from the first document on
pub course_bytes : (t : Task) (told : List ℕ) {n : ℕ} → size_of (outcome_of t told).outputs ≤ n
    → size_of (course_of t 1 0 told).outputs ≤ n
course_bytes t told {n = n} enough = subst (λ (o : Outcome). size_of o.outputs ≤ n) (sym (course_is t told)) enough

pub course_blocks : (t : Task) (told : List ℕ) {n : ℕ} → draws_of (outcome_of t told).outputs ≤ n
    → draws_of (course_of t 1 0 told).outputs ≤ n
course_blocks t told {n = n} enough = subst (λ (o : Outcome). draws_of o.outputs ≤ n) (sym (course_is t told)) enough

pub reads_one : (t : Task) → reads_input t ≡ true → reads_input t ≡ false → ⊥
reads_one t reads none = false≢true (sym none ∙ reads)

pub ends_reads : (t : Task) → reads_input t ≡ true → (why : Why) → IsOfStream why → EndsAs t why
ends_reads (fails finish) reads why kind = absurd (false≢true reads)
ends_reads (makes plan) reads why kind = absurd (false≢true reads)
ends_reads (each v) reads why kind = ends_each v why kind
ends_reads (pairs w) reads why kind = ends_pairs w why kind

pub folder_no : (why : Why) → IsOfStream why → why ≡ whys.Cut cuts.Folder → ⊥
folder_no why kind at = subst IsOfStream at kind

pub did_turns : (t : Task) {told : List ℕ} {after : Option (List ℕ)} {entropy entropy_after : EntropySeen}
    {out out_after : SinkSeen} {number : ℕ} {why : Why}
    → reads_input t ≡ true → IsOfStream why
    → Ran (course_of t 1 0 told) 1 told after (spans_of t) entropy entropy_after out out_after number why
    → Did t told after entropy entropy_after out out_after number why
did_turns (fails finish) reads kind ran = absurd (false≢true reads)
did_turns (makes plan) reads kind ran = absurd (false≢true reads)
did_turns (each v) {why = why} reads kind ran =
    record { ran = ran; unread = λ at. absurd (folder_no why kind at) }
did_turns (pairs w) {why = why} reads kind ran =
    record { ran = ran; unread = λ at. absurd (folder_no why kind at) }

-- ---- a verb that draws no block

-- it did what it did whatever blocks are to come
pub acts_undrawing : (v : Items
    → Verdict) {pace : Pace} {input input_after : SourceSeen} {files files_after : FolderSeen}
    {out out_after : SinkSeen} {entropy entropy_after : EntropySeen} {end : End} (e : EntropySeen) → DrawsNone v
    → IsOfStream end.why → (end.why ≡ whys.Cut cuts.Entropy → ⊥)
    → Acted AreAny (λ _. each v) pace (objects input files out entropy)
    (objects input_after files_after out_after entropy_after) end
    → Acted AreAny (λ _. each v) pace (objects input files out e) (objects input_after files_after out_after e) end
acts_undrawing v {entropy = entropy} {entropy_after = entropy_after} e quiet kind undrawn run = record {
  did = λ all told shown is. did_undrawing v told _ entropy entropy_after e _ _ _ _ quiet (run.did all told shown is);
  unread = λ all told shown none. absurd (reads_one (each v) refl none);
  placed = run.placed;
  took = run.took;
  numbered = run.numbered;
  in_cause = run.in_cause;
  in_sure = run.in_sure;
  folder_cause = run.folder_cause;
  folder_sure = run.folder_sure;
  out_cause = run.out_cause;
  out_sure = run.out_sure;
  entropy_cause = λ at. absurd (undrawn at);
  entropy_sure = λ _ _ _ _ _. undrawn;
}

-- ---- a run behind the files

-- files were read before, and lead to its task
pub acts_behind : {shows : FolderSeen → Files → Type 0} {task : Files → Task} (t : Task) {pace : Pace}
    {input input_after : SourceSeen} {files files_after : FolderSeen} {out out_after : SinkSeen}
    {entropy entropy_after : EntropySeen} {end : End}
    → ((all : Files) → shows files all → task all ≡ t) → (end.why ≡ whys.Cut cuts.Folder → ⊥)
    → ((f : FolderSeen) → Acted AreAny (λ _. t) pace (objects input f out entropy)
    (objects input_after f out_after entropy_after) end)
    → Acted shows task pace (objects input files out entropy)
    (objects input_after files_after out_after entropy_after) end
acts_behind t {files = files} {out = out} {entropy = entropy} {end = end} leads unfailed runs =
    let run = runs files in
    record {
      did = λ all told shown is. did_task (leads all shown) (run.did all told tt is);
      unread = λ all told shown none.
          did_task (leads all shown) (run.unread all told tt (ap reads_input (sym (leads all shown)) ∙ none));
      placed = λ all shown. ends_task end.why (leads all shown) (run.placed all tt);
      took = run.took;
      numbered = run.numbered;
      in_cause = run.in_cause;
      in_sure = run.in_sure;
      folder_cause = λ at. absurd (unfailed at);
      folder_sure = λ _. unfailed;
      out_cause = run.out_cause;
      out_sure = λ all told shown over enough.
          run.out_sure all told tt (λ reads. over (ap reads_input (leads all shown) ∙ reads))
          (subst (λ (u : Task). size_of (outcome_of u told).outputs ≤ out.assured) (leads all shown) enough);
      entropy_cause = run.entropy_cause;
      entropy_sure = λ all told shown over enough.
          run.entropy_sure all told tt (λ reads. over (ap reads_input (leads all shown) ∙ reads))
          (subst (λ (u : Task). draws_of (outcome_of u told).outputs ≤ entropy.assured) (leads all shown) enough);
    }

-- ---- a run that ends before the input is read

-- the ends that come there
abbrev pub IsEarly : Why → Type 0
IsEarly (whys.Finished finish) = Unit {0}
IsEarly (whys.Cut cuts.Folder) = Unit {0}
IsEarly (whys.Cut cuts.Memory) = Unit {0}
IsEarly (whys.Cut cut) = ⊥

pub acts_early : {shows : FolderSeen → Files → Type 0} {task : Files → Task} {pace : Pace} {input : SourceSeen}
    {files files_after : FolderSeen} {out : SinkSeen} {entropy : EntropySeen} (why : Why) → IsEarly why
    → ((all : Files) (told : List ℕ) (after : Option (List ℕ)) → shows files all → after ≡ Some told
    → Did (task all) told after entropy entropy out out 0 why)
    → ((all : Files) → shows files all → EndsAs (task all) why)
    → (why ≡ whys.Cut cuts.Folder → Rose files.faults files_after.faults)
    → (files.assured ≡ true → why ≡ whys.Cut cuts.Folder → ⊥)
    → Acted shows task pace (objects input files out entropy) (objects input files_after out entropy)
    (record { number = 0; why = why })
acts_early why early did placed cause sure = record {
  did = λ all told shown is. did all told _ shown is;
  unread = λ all told shown none. did all told (Some told) shown refl;
  placed = placed;
  took = (omega arith, omega arith);
  numbered = λ at. absurd (subst IsEarly at early);
  in_cause = λ at. absurd (subst IsEarly at early);
  in_sure = λ _ at. subst IsEarly at early;
  folder_cause = cause;
  folder_sure = sure;
  out_cause = λ at. absurd (subst IsEarly at early);
  out_sure = λ _ _ _ _ _ at. subst IsEarly at early;
  entropy_cause = λ at. absurd (subst IsEarly at early);
  entropy_sure = λ _ _ _ _ _ at. subst IsEarly at early;
}

-- memory ran out there
pub acts_memory : {shows : FolderSeen → Files → Type 0} {task : Files → Task} {pace : Pace} {input : SourceSeen}
    {files files_after : FolderSeen} {out : SinkSeen} {entropy : EntropySeen}
    → Acted shows task pace (objects input files out entropy) (objects input files_after out entropy)
    (record { number = 0; why = whys.Cut cuts.Memory })
acts_memory {task = task} {out = out} {entropy = entropy} =
    acts_early (whys.Cut cuts.Memory) tt (λ all told after _ is. did_memory (task all) told after entropy out is)
    (λ _ _. tt) (λ at. absurd (memory_not_folder at)) (λ _ at. memory_not_folder at)

-- the words or the files are at fault
pub acts_fails : {shows : FolderSeen → Files → Type 0} (finish : Finish) {pace : Pace} {input : SourceSeen}
    {files files_after : FolderSeen} {out : SinkSeen} {entropy : EntropySeen}
    → Acted shows (λ _. fails finish) pace (objects input files out entropy) (objects input files_after out entropy)
    (record { number = 0; why = whys.Finished finish })
acts_fails finish {out = out} {entropy = entropy} =
    acts_early (whys.Finished finish) tt (λ all told after _ is. did_fail finish told after entropy out is)
    (λ _ _. refl) (λ at. absurd (finished_no finish cuts.Folder at)) (λ _ at. finished_no finish cuts.Folder at)

-- ---- a verb that reads no input

pub acts_makes : (plan : Plan) {pace : Pace} {input : SourceSeen} {files : FolderSeen} {out out_after : SinkSeen}
    {entropy entropy_after : EntropySeen} {end : End} → end.number ≡ 0 → EndsAs (makes plan) end.why
    → (end.why ≡ whys.Cut cuts.Folder → ⊥)
    → ((told : List ℕ) (after : Option (List ℕ)) → after ≡ Some told
    → Did (makes plan) told after entropy entropy_after out out_after end.number end.why)
    → (end.why ≡ whys.Cut cuts.Output → Rose out.faults out_after.faults)
    → (plan.size ≤ out.assured → end.why ≡ whys.Cut cuts.Output → ⊥)
    → (end.why ≡ whys.Cut cuts.Entropy → Rose entropy.faults entropy_after.faults)
    → (plan.draws ≤ entropy.assured → end.why ≡ whys.Cut cuts.Entropy → ⊥)
    → Acted AreAny (λ _. makes plan) pace (objects input files out entropy)
    (objects input files out_after entropy_after) end
acts_makes plan zero ends unfailed did out_cause out_sure entropy_cause entropy_sure = record {
  did = λ _ told _ is. did told _ is;
  unread = λ _ told _ _. did told (Some told) refl;
  placed = λ _ _. ends;
  took = (omega (arith, zero), omega (arith, zero));
  numbered = λ at. absurd (subst (EndsAs (makes plan)) at ends);
  in_cause = λ at. absurd (subst (EndsAs (makes plan)) at ends);
  in_sure = λ _ at. subst (EndsAs (makes plan)) at ends;
  folder_cause = λ at. absurd (unfailed at);
  folder_sure = λ _. unfailed;
  out_cause = out_cause;
  out_sure = λ _ _ _ _ enough. out_sure (omega (arith, enough));
  entropy_cause = entropy_cause;
  entropy_sure = λ _ _ _ _ enough. entropy_sure (omega (arith, enough));
}
