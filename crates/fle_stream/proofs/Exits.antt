-- Turns, by how they end: what they did, and whose failure it was.
use Rattle.std.proofs.Common.{◌≡◌, ℕ, ◌+◌, ◌*◌, ◌-◌, ◌^◌, ◌<◌, ◌≤◌, min, true, Option, Some, List, [], drop, Result}
use Rattle.std.proofs.Common.{Ok, Err, sym, subst, arith}
use Rattle.bson_tree.specs.Tree.{Items}
use Rattle.fle_outside.proofs.Drawings.{draws_none}
use Rattle.fle_outside.specs.Counts.{Rose}
use Rattle.fle_outside.specs.Filling.{RoseBy}
use Rattle.fle_outside.specs.Seen.{EntropySeen, SinkSeen, SourceSeen}
use Rattle.fle_stream.specs.Next.{IsOfNext}
use Rattle.fle_stream.specs.Outcome.{Outcome, finished, judged}
use Rattle.fle_stream.specs.Plan.{Verdict, writes, refused, too_long, draws_in}
use Rattle.fle_stream.specs.Run.{HandedPast, LastStep, total}
use Rattle.fle_stream.specs.Task.{Task, course_of, spans_of}
use Rattle.fle_stream.specs.Turn.{EndsBy, EndsOfStream, IsOfStream, Pace, Progresses, TookBehind, turn_by}
use Rattle.fle_stream.specs.Turned.{Has, HasRead, TurnDid, devices}
use Rattle.fle_stream.specs.Write.{WriteIs}
use Rattle.fle_stream.specs.declared.turning.Turn.{Turn}
use Rattle.fle_stream.specs.declared.turning.Turn.TheVariants as turns
use Rattle.fle_stream.specs.declared.why.Cut.TheVariants as cuts
use Rattle.fle_stream.specs.declared.why.Finish.{Finish}
use Rattle.fle_stream.specs.declared.why.Finish.TheVariants as finishes
use Rattle.fle_stream.specs.declared.why.Why.{Why}
use Rattle.fle_stream.specs.declared.why.Why.TheVariants as whys
use Rattle.fle_stream.proofs.Judgings.{memory_none, step_finished, step_memory}
use Rattle.fle_stream.proofs.Opens.{among_blocks, among_bytes}
use Rattle.fle_stream.proofs.Turned.{finished_no, memory_not_entropy, memory_not_input, memory_not_output, none_more}
use Rattle.fle_stream.proofs.Writings.{stopped, stops_as, wrote}

-- ---- ends before anything is written

-- the run ends so at the document of this number, so many bytes of those that were left being read
pub record Comes (t : Task) (number taken : ℕ) (told : List ℕ) (after : Option (List ℕ)) (finish : Finish)
    (at : ℕ) : Type 0 where
  pub used : ℕ
  pub is : course_of t number taken told ≡ finished finish at used
  pub left : after ≡ Some (drop used told)

-- neither the output nor the source of blocks failed
pub did_early : {t : Task} {number taken : ℕ} {has : List ℕ → Type 0} {input after : SourceSeen} {out : SinkSeen}
    {entropy : EntropySeen} {at : ℕ} (why : Why)
    → ((told : List ℕ) → has told
    → LastStep (course_of t number taken told) number told after.told (spans_of t told) entropy entropy out out at why)
    → input.faults ≤ after.faults
    → (why ≡ whys.Cut cuts.Input → Rose input.faults after.faults)
    → (input.assured ≡ true → (why ≡ whys.Cut cuts.Input → ⊥) × (after.assured ≡ true))
    → (why ≡ whys.Cut cuts.Output → ⊥) → (why ≡ whys.Cut cuts.Entropy → ⊥)
    → TurnDid t number taken has (devices input out entropy) (devices after out entropy) (turns.Ended at why)
did_early why course later cause sure full dry = record {
  course = course;
  in_later = later;
  in_cause = cause;
  in_sure = sure;
  out_later = none_more _;
  out_cause = λ at. absurd (full at);
  out_sure = λ told shows enough at. full at;
  entropy_later = none_more _;
  entropy_cause = λ at. absurd (dry at);
  entropy_sure = λ told shows enough at. dry at;
}

-- nothing failed
pub did_finish : {t : Task} {number taken : ℕ} {has : List ℕ → Type 0} {input after : SourceSeen} {out : SinkSeen}
    {entropy : EntropySeen} {at : ℕ} (finish : Finish)
    → ((told : List ℕ) → has told → Comes t number taken told after.told finish at)
    → input.faults ≤ after.faults → (input.assured ≡ true → after.assured ≡ true)
    → TurnDid t number taken has (devices input out entropy) (devices after out entropy)
    (turns.Ended at (whys.Finished finish))
did_finish {t = t} {number = number} {taken = taken} {after = after} {out = out} {entropy = entropy} {at = at} finish
    comes later sure =
    did_early (whys.Finished finish)
    (λ told shows. step_finished (course_of t number taken told) number told after.told (spans_of t told) entropy
    entropy out finish at (comes told shows).used (comes told shows).is (comes told shows).left (draws_none entropy))
    later (λ e. absurd (finished_no _ _ e)) (λ a. (λ e. finished_no _ _ e, sure a)) (λ e. finished_no _ _ e)
    (λ e. finished_no _ _ e)

-- there was no memory
pub did_memory : {t : Task} {number taken : ℕ} {has : List ℕ → Type 0} {input after : SourceSeen} {out : SinkSeen}
    {entropy : EntropySeen} {at : ℕ}
    → ((told : List ℕ) → has told → HandedPast 0 (total (spans_of t told)) told after.told)
    → input.faults ≤ after.faults → (input.assured ≡ true → after.assured ≡ true)
    → TurnDid t number taken has (devices input out entropy) (devices after out entropy)
    (turns.Ended at (whys.Cut cuts.Memory))
did_memory {t = t} {number = number} {taken = taken} {after = after} {out = out} {entropy = entropy} {at = at} handed
    later sure =
    did_early (whys.Cut cuts.Memory)
    (λ told shows. step_memory (course_of t number taken told) number told after.told (spans_of t told) entropy entropy
    out at [] (memory_none (course_of t number taken told).outputs) (handed told shows) (draws_none entropy))
    later (λ e. absurd (memory_not_input e)) (λ a. (λ e. memory_not_input e, sure a)) (λ e. memory_not_output e)
    (λ e. memory_not_entropy e)

-- no document was read
pub did_stop : {t : Task} {number taken : ℕ} {has : List ℕ → Type 0} {input after : SourceSeen} {out : SinkSeen}
    {entropy : EntropySeen} {at : ℕ} (why : Why) → IsOfNext why
    → ((told : List ℕ) → has told
    → LastStep (course_of t number taken told) number told after.told (spans_of t told) entropy entropy out out at why)
    → input.faults ≤ after.faults
    → (why ≡ whys.Cut cuts.Input → Rose input.faults after.faults)
    → (input.assured ≡ true → (why ≡ whys.Cut cuts.Input → ⊥) × (after.assured ≡ true))
    → TurnDid t number taken has (devices input out entropy) (devices after out entropy) (turns.Ended at why)
did_stop why kind course later cause sure =
    did_early why course later cause sure (λ e. subst IsOfNext e kind) (λ e. subst IsOfNext e kind)

pub next_kind : (why : Why) → IsOfNext why → IsOfStream why
next_kind (whys.Finished finishes.Done) kind = tt
next_kind (whys.Finished (finishes.Refused reason place)) kind = tt
next_kind (whys.Finished (finishes.Malformed fault)) kind = tt
next_kind (whys.Finished (finishes.Limit bound)) kind = tt
next_kind (whys.Finished finishes.Words) kind = kind
next_kind (whys.Finished (finishes.Setup file fault document)) kind = kind
next_kind (whys.Finished (finishes.Key reason document)) kind = kind
next_kind (whys.Cut cuts.Folder) kind = kind
next_kind (whys.Cut cuts.Input) kind = tt
next_kind (whys.Cut cuts.Output) kind = tt
next_kind (whys.Cut cuts.Entropy) kind = tt
next_kind (whys.Cut cuts.Memory) kind = tt

-- ---- an output that was made

-- what is judged stands in front: what the run comes to by it, how many bytes it has and what is left behind it
pub record Fronts (t : Task) (number taken d n : ℕ) (v : Verdict) (told : List ℕ)
    (after : Option (List ℕ)) : Type 0 where
  pub comes : course_of t number taken told
      ≡ judged v number d n (course_of t (number + d) (taken + n) (drop n told))
  pub within : n ≤ total (spans_of t told)
  pub left : after ≡ Some (drop n told)

wrote_later : (v : Verdict) (entropy entropy_after : EntropySeen) (out out_after : SinkSeen) (done : Unit {0})
    → WriteIs v entropy entropy_after out out_after (Ok done)
    → (out.faults ≤ out_after.faults) × (entropy.faults ≤ entropy_after.faults)
wrote_later (writes plan) entropy entropy_after out out_after done says = (says.wrote.later, says.draws.later)
wrote_later (refused reason place) entropy entropy_after out out_after done says = absurd says
wrote_later too_long entropy entropy_after out out_after done says = absurd says

-- it was written, or a part of it, or it was refused, or there was no memory
pub did_write : {t : Task} {number taken : ℕ} {has : List ℕ → Type 0} {input after : SourceSeen}
    {out out_after : SinkSeen} {entropy entropy_after : EntropySeen} (v : Verdict) (d n : ℕ)
    (result : Result (Unit {0}) Why)
    → ((told : List ℕ) → has told → Fronts t number taken d n v told after.told)
    → input.faults ≤ after.faults → (input.assured ≡ true → after.assured ≡ true)
    → WriteIs v entropy entropy_after out out_after result
    → TurnDid t number taken has (devices input out entropy) (devices after out_after entropy_after)
    (turn_by number n d result)
did_write {t = t} {number = number} {taken = taken} {after = after} {out = out} {out_after = out_after}
    {entropy = entropy} {entropy_after = entropy_after} v d n (Ok done) fronts later sure says =
    let rose = wrote_later v entropy entropy_after out out_after done says in record {
      course = λ told shows.
          wrote v (course_of t) number d taken n told after.told entropy entropy_after out out_after done
          (fronts told shows).comes (fronts told shows).left says;
      in_later = later;
      in_cause = λ no. absurd no;
      in_sure = λ a. (λ no. no, sure a);
      out_later = rose.0;
      out_cause = λ no. absurd no;
      out_sure = λ told shows enough no. no;
      entropy_later = rose.1;
      entropy_cause = λ no. absurd no;
      entropy_sure = λ told shows enough no. no;
    }
did_write {t = t} {number = number} {taken = taken} {after = after} {out = out} {out_after = out_after}
    {entropy = entropy} {entropy_after = entropy_after} v d n (Err why) fronts later sure says =
    let stops = stops_as v why entropy entropy_after out out_after says in record {
      course = λ told shows.
          let f = fronts told shows in
          subst (λ (o : Outcome). LastStep o number told after.told (spans_of t told) entropy entropy_after out
          out_after number why) (sym f.comes)
          (stopped v why (course_of t (number + d) (taken + n) (drop n told)) number d n (spans_of t told) told
          after.told entropy entropy_after out out_after f.within f.left says);
      in_later = later;
      in_cause = λ at. absurd (stops.no_read at);
      in_sure = λ a. (stops.no_read, sure a);
      out_later = stops.out_later;
      out_cause = stops.out_cause;
      out_sure = λ told shows enough at.
          stops.out_sure (among_bytes v number d n (course_of t number taken told)
          (course_of t (number + d) (taken + n) (drop n told)) _ (fronts told shows).comes enough) at;
      entropy_later = stops.entropy_later;
      entropy_cause = stops.entropy_cause;
      entropy_sure = λ told shows enough at.
          stops.entropy_sure (among_blocks v number d n (course_of t number taken told)
          (course_of t (number + d) (taken + n) (drop n told)) _ (fronts told shows).comes enough) at;
    }

pub write_kind : (number d n : ℕ) (entropy entropy_after : EntropySeen) (out out_after : SinkSeen) (v : Verdict)
    (result : Result (Unit {0}) Why) → WriteIs v entropy entropy_after out out_after result
    → EndsOfStream (turn_by number n d result)
write_kind number d n entropy entropy_after out out_after v (Ok done) says = tt
write_kind number d n entropy entropy_after out out_after v (Err why) says =
    (stops_as v why entropy entropy_after out out_after says).kind

-- no draw failed where none was made
pub write_undrawn : (number d n : ℕ) (entropy entropy_after : EntropySeen) (out out_after : SinkSeen) (v : Verdict)
    (result : Result (Unit {0}) Why) → WriteIs v entropy entropy_after out out_after result → draws_in v ≡ 0
    → EndsBy cuts.Entropy (turn_by number n d result) → ⊥
write_undrawn number d n entropy entropy_after out out_after v (Ok done) says none at = at
write_undrawn number d n entropy entropy_after out out_after v (Err why) says none at =
    let least : draws_in v ≤ entropy.assured = omega (arith, none) in
    (stops_as v why entropy entropy_after out out_after says).entropy_sure least at

pub write_progress : (pace : Pace) (taken number d n : ℕ) (result : Result (Unit {0}) Why)
    → Progresses pace taken (turns.Wrote n d) → Progresses pace taken (turn_by number n d result)
write_progress pace taken number d n (Ok done) goes = goes
write_progress pace taken number d n (Err why) goes = tt

pub write_took : (pace : Pace) (size number before after d n : ℕ) (result : Result (Unit {0}) Why)
    → size ≤ n → RoseBy before after (n - size)
    → number < number + pace.documents → min before (2 ^ 64 - 1) ≤ after
    → after ≤ before + pace.bytes * (pace.documents - 1)
    → TookBehind pace size number before after (turn_by number n d result)
write_took pace size number before after d n (Ok done) whole rose some least most = (whole, rose)
write_took pace size number before after d n (Err why) whole rose some least most =
    (none_more number, some, least, most)

-- ---- behind a first document

-- the first document was read before
pub did_behind : {t : Task} {number taken n : ℕ} {c : Items} {input mid after : SourceSeen} {out out_after : SinkSeen}
    {entropy entropy_after : EntropySeen} {turn : Turn}
    → ((told : List ℕ) → Has input told → HasRead t n c mid told)
    → input.faults ≤ mid.faults → (input.assured ≡ true → mid.assured ≡ true)
    → TurnDid t number taken (HasRead t n c mid) (devices mid out entropy) (devices after out_after entropy_after) turn
    → TurnDid t number taken (Has input) (devices input out entropy) (devices after out_after entropy_after) turn
did_behind reads later sure did = record {
  course = λ told shows. did.course told (reads told shows);
  in_later = omega (arith, later, did.in_later);
  in_cause = λ at. omega (arith, later, did.in_cause at);
  in_sure = λ a. did.in_sure (sure a);
  out_later = did.out_later;
  out_cause = did.out_cause;
  out_sure = λ told shows. did.out_sure told (reads told shows);
  entropy_later = did.entropy_later;
  entropy_cause = did.entropy_cause;
  entropy_sure = λ told shows. did.entropy_sure told (reads told shows);
}
