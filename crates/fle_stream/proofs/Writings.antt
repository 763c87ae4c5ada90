-- One document's output written: what its verdict makes of the run.
use Rattle.std.proofs.Common.{◌≡◌, ℕ, ◌+◌, ◌<◌, ◌≤◌, ◌^◌, Option, Some, Ok, Err, List, [], ◌∷◌, drop, length, refl}
use Rattle.std.proofs.Common.{sym, ◌∙◌, ap, subst, arith, Vec, Global}
use Rattle.std.proofs.lemmas.Bool.{false≢true}
use Rattle.bson_tree.specs.Tree.{Items}
use Rattle.fle_outside.specs.Counts.{Rose}
use Rattle.fle_outside.specs.Seen.{Draws, EntropySeen, SinkSeen}
use Rattle.fle_outside.specs.Writing.{WritesWhole}
use Rattle.fle_outside.specs.declared.answers.Failed.{Failed}
use Rattle.fle_stream.specs.Judge.{JudgeIs}
use Rattle.fle_stream.specs.Outcome.{Course, Outcome, judged, outcome}
use Rattle.fle_stream.specs.Plan.{Verdict, writes, refused, too_long, size_in, draws_in, size_of, draws_of}
use Rattle.fle_stream.specs.Run.{LastStep, OneStep, total}
use Rattle.fle_stream.specs.Streams.{Docs, document_limit, documents, first_size}
use Rattle.fle_stream.specs.Turn.{IsOfStream}
use Rattle.fle_stream.specs.Write.{WriteIs, WritesNothing}
use Rattle.fle_stream.specs.declared.judging.Judged.TheVariants as judgements
use Rattle.fle_stream.specs.declared.why.Bound.TheVariants as bounds
use Rattle.fle_stream.specs.declared.why.Cut.TheVariants as cuts
use Rattle.fle_stream.specs.declared.why.Finish.{Finish}
use Rattle.fle_stream.specs.declared.why.Finish.TheVariants as finishes
use Rattle.fle_stream.specs.declared.why.Number.{Number}
use Rattle.fle_stream.specs.declared.why.Why.{Why}
use Rattle.fle_stream.specs.declared.why.Why.TheVariants as whys
use Rattle.fle_stream.proofs.Bodies.{DocRead}
use Rattle.fle_stream.proofs.Judgings.{above, draws_in-≤, outcome_doc, past, refusal, size_in-≤, undrawn, unjudged}
use Rattle.fle_stream.proofs.Turned.{finished_no, memory_not_entropy, memory_not_input, memory_not_output}
use Rattle.fle_stream.proofs.Turned.{entropy_not_input, entropy_not_output, output_not_entropy, output_not_input}

-- the document stands first in the stream: what the run comes to, how many bytes it has and what is left behind it
pub record Here (v : Items → Verdict) (number taken n : ℕ) (told : List ℕ) (after : Option (List ℕ))
    (is : Items) : Type 0 where
  pub comes : outcome v number taken (documents told)
      ≡ judged (v is) number 1 n (outcome v (number + 1) (taken + n) (documents (drop n told)))
  pub within : n ≤ total (first_size (documents told) (length told) ∷ [])
  pub left : after ≡ Some (drop n told)

pub here : (v : Items → Verdict) (number taken n : ℕ) (told : List ℕ) (after : Option (List ℕ)) (is : Items)
    → taken < 2 ^ 40 → DocRead document_limit document_limit told after n is → Here v number taken n told after is
here v number taken n told after is few read =
    let first = ap (λ (docs : Docs). first_size docs (length told)) read.stands in
    record {
      comes = ap (λ (docs : Docs). outcome v number taken docs) read.stands
          ∙ outcome_doc v number taken n is (documents (drop n told)) few;
      within = omega (arith, first);
      left = read.left;
    }

-- what is enough for all outputs is for its own
pub own_bytes : {v : Items → Verdict} {number taken n : ℕ} {told : List ℕ} {after : Option
    (List ℕ)} {is : Items} {m : ℕ}
    → Here v number taken n told after is → size_of (outcome v number taken (documents told)).outputs ≤ m
    → size_in (v is) ≤ m
own_bytes {v = v} {number = number} {taken = taken} {n = n} {told = told} {is = is} here enough =
    let behind : Outcome = outcome v (number + 1) (taken + n) (documents (drop n told)) in
    omega (arith, ap (λ (o : Outcome). size_of o.outputs) here.comes, enough, size_in-≤ (v is) number 1 n behind)

pub own_blocks : {v : Items → Verdict} {number taken n : ℕ} {told : List ℕ} {after : Option
    (List ℕ)} {is : Items} {m : ℕ}
    → Here v number taken n told after is → draws_of (outcome v number taken (documents told)).outputs ≤ m
    → draws_in (v is) ≤ m
own_blocks {v = v} {number = number} {taken = taken} {n = n} {told = told} {is = is} here enough =
    let behind : Outcome = outcome v (number + 1) (taken + n) (documents (drop n told)) in
    omega (arith, ap (λ (o : Outcome). draws_of o.outputs) here.comes, enough, draws_in-≤ (v is) number 1 n behind)

-- the output was written
pub wrote : (v : Verdict) (course : Course) (number d taken n : ℕ) (told : List ℕ) (after : Option (List ℕ))
    (entropy entropy_after : EntropySeen) (out out_after : SinkSeen) (done : Unit {0})
    → course number taken told ≡ judged v number d n (course (number + d) (taken + n) (drop n told))
    → after ≡ Some (drop n told) → WriteIs v entropy entropy_after out out_after (Ok done)
    → OneStep course number taken told after entropy entropy_after out out_after n d
wrote (writes plan) course number d taken n told after entropy entropy_after out out_after done comes left says =
    record {
      plan = plan;
      comes = comes;
      left = left;
      drawn = says.drawn;
      enough = says.enough;
      draws = says.draws;
      wrote = says.wrote.puts;
      filled = omega (arith, says.wrote.falls, says.size);
    }
wrote (refused r p) course number d taken n told after entropy entropy_after out out_after done comes left says =
    absurd says
wrote too_long course number d taken n told after entropy entropy_after out out_after done comes left says = absurd says

-- nothing was written
still : (o : Outcome) (number : ℕ) (spans told : List ℕ) (after : Option (List ℕ)) (entropy entropy_after : EntropySeen)
    (out out_after : SinkSeen) (at : ℕ) (why : Why) → out_after ≡ out
    → LastStep o number told after spans entropy entropy_after out out at why
    → LastStep o number told after spans entropy entropy_after out out_after at why
still o number spans told after entropy entropy_after out out_after at why same last =
    subst (λ (s : SinkSeen). LastStep o number told after spans entropy entropy_after out s at why) (sym same) last

-- there was no memory, whatever the document comes to
memory_drew : (v : Verdict) (entropy entropy_after : EntropySeen) (out out_after : SinkSeen)
    → WriteIs v entropy entropy_after out out_after (Err (whys.Cut cuts.Memory))
    → WritesNothing entropy entropy_after out out_after
memory_drew (writes plan) entropy entropy_after out out_after says = says
memory_drew (refused reason place) entropy entropy_after out out_after says = says
memory_drew too_long entropy entropy_after out out_after says = says

memory_judged : (v : Verdict) (entropy entropy_after : EntropySeen) → Draws entropy entropy_after []
    → JudgeIs v entropy entropy_after judgements.Memory
memory_judged (writes plan) entropy entropy_after draws = draws
memory_judged (refused reason place) entropy entropy_after draws = draws
memory_judged too_long entropy entropy_after draws = draws

-- it was not, or not whole
pub stopped : (v : Verdict) (why : Why) (o : Outcome) (number d n : ℕ) (spans told : List ℕ) (after : Option (List ℕ))
    (entropy entropy_after : EntropySeen) (out out_after : SinkSeen) → n ≤ total spans → after ≡ Some (drop n told)
    → WriteIs v entropy entropy_after out out_after (Err why)
    → LastStep (judged v number d n o) number told after spans entropy entropy_after out out_after number why
stopped (writes plan) (whys.Cut cuts.Output) o number d n spans told after entropy entropy_after out out_after within
    left says = record {
      more = says.1.drawn;
      draws = says.1.draws;
      part = says.1.wrote.puts.0;
      gains = says.1.wrote.puts.2;
      end = ((says.1.enough, says.1.wrote.puts.1), (past n (total spans) told after within left, refl));
    }
stopped (writes plan) (whys.Cut cuts.Entropy) o number d n spans told after entropy entropy_after out out_after within
    left says = still _ number spans told after entropy entropy_after out out_after number _ says.1
    (undrawn (writes plan) o number d n spans told after entropy entropy_after out within left says.0)
stopped v (whys.Cut cuts.Memory) o number d n spans told after entropy entropy_after out out_after within left says =
    let none = memory_drew v entropy entropy_after out out_after says in
    still _ number spans told after entropy entropy_after out out_after number _ none.same
    (unjudged v o number d n spans told after entropy entropy_after out within left
    (memory_judged v entropy entropy_after none.draws))
stopped (refused reason place) (whys.Finished (finishes.Refused r p)) o number d n spans told after entropy
    entropy_after out out_after within left says =
    still _ number spans told after entropy entropy_after out out_after number _ says.2.same
    (refusal (refused reason place) o number d n spans told after entropy entropy_after out r p left
    (says.0, says.1, says.2.draws))
stopped too_long (whys.Finished (finishes.Limit bounds.Output)) o number d n spans told after entropy entropy_after out
    out_after within left says = still _ number spans told after entropy entropy_after out out_after number _ says.same
    (above too_long o number d n spans told after entropy entropy_after out left says.draws)
stopped v why o number d n spans told after entropy entropy_after out out_after within left says = absurd says

-- ---- whose failure it was

-- a document's output wasn't written whole, for this reason
pub record StopsAs (v : Verdict) (entropy entropy_after : EntropySeen) (out out_after : SinkSeen)
    (why : Why) : Type 0 where
  pub kind : IsOfStream why
  pub no_read : why ≡ whys.Cut cuts.Input → ⊥
  pub out_later : out.faults ≤ out_after.faults
  pub out_cause : why ≡ whys.Cut cuts.Output → Rose out.faults out_after.faults
  pub out_sure : size_in v ≤ out.assured → why ≡ whys.Cut cuts.Output → ⊥
  pub entropy_later : entropy.faults ≤ entropy_after.faults
  pub entropy_cause : why ≡ whys.Cut cuts.Entropy → Rose entropy.faults entropy_after.faults
  pub entropy_sure : draws_in v ≤ entropy.assured → why ≡ whys.Cut cuts.Entropy → ⊥

same_later : (out out_after : SinkSeen) → out_after ≡ out → out.faults ≤ out_after.faults
same_later out out_after same = omega (arith, ap (λ (s : SinkSeen). s.faults) same)

-- nobody's, where nothing was written
finished_stops : (v : Verdict) (finish : Finish) (entropy entropy_after : EntropySeen) (out out_after : SinkSeen)
    → IsOfStream (whys.Finished finish) → WritesNothing entropy entropy_after out out_after
    → StopsAs v entropy entropy_after out out_after (whys.Finished finish)
finished_stops v finish entropy entropy_after out out_after kind none = record {
  kind = kind;
  no_read = λ at. finished_no finish cuts.Input at;
  out_later = same_later out out_after none.same;
  out_cause = λ at. absurd (finished_no finish cuts.Output at);
  out_sure = λ _ at. finished_no finish cuts.Output at;
  entropy_later = none.draws.later;
  entropy_cause = λ at. absurd (finished_no finish cuts.Entropy at);
  entropy_sure = λ _ at. finished_no finish cuts.Entropy at;
}

pub stops_as : (v : Verdict) (why : Why) (entropy entropy_after : EntropySeen) (out out_after : SinkSeen)
    → WriteIs v entropy entropy_after out out_after (Err why) → StopsAs v entropy entropy_after out out_after why
stops_as (writes plan) (whys.Cut cuts.Output) entropy entropy_after out out_after says = record {
  kind = tt;
  no_read = output_not_input;
  out_later = says.1.wrote.later;
  out_cause = λ _. says.1.wrote.cause;
  out_sure = λ enough _. false≢true (says.1.wrote.sure (omega (arith, enough, says.1.size)));
  entropy_later = says.1.draws.later;
  entropy_cause = λ at. absurd (output_not_entropy at);
  entropy_sure = λ _ at. output_not_entropy at;
}
stops_as (writes plan) (whys.Cut cuts.Entropy) entropy entropy_after out out_after says = record {
  kind = tt;
  no_read = entropy_not_input;
  out_later = same_later out out_after says.1;
  out_cause = λ at. absurd (entropy_not_output at);
  out_sure = λ _ at. entropy_not_output at;
  entropy_later = says.0.first.later;
  entropy_cause = λ _. says.0.rose;
  entropy_sure = λ enough _. omega (arith, enough, says.0.fewer, says.0.unassured);
}
stops_as v (whys.Cut cuts.Memory) entropy entropy_after out out_after says =
    let none = memory_drew v entropy entropy_after out out_after says in
    record {
      kind = tt;
      no_read = memory_not_input;
      out_later = same_later out out_after none.same;
      out_cause = λ at. absurd (memory_not_output at);
      out_sure = λ _ at. memory_not_output at;
      entropy_later = none.draws.later;
      entropy_cause = λ at. absurd (memory_not_entropy at);
      entropy_sure = λ _ at. memory_not_entropy at;
    }
stops_as (refused reason place) (whys.Finished (finishes.Refused r p)) entropy entropy_after out out_after says =
    finished_stops (refused reason place) (finishes.Refused r p) entropy entropy_after out out_after tt says.2
stops_as too_long (whys.Finished (finishes.Limit bounds.Output)) entropy entropy_after out out_after says =
    finished_stops too_long (finishes.Limit bounds.Output) entropy entropy_after out out_after tt says
stops_as v why entropy entropy_after out out_after says = absurd says

-- ---- the writer of a judge

-- its output was written, or a part of it
pub judged_written : (v : Verdict) (entropy entropy_after : EntropySeen) (out out_after : SinkSeen)
    (output : Vec ℕ Global) (done : Unit {0})
    → JudgeIs v entropy entropy_after (judgements.Written output)
    → WritesWhole out out_after (Ok done) output.items → WriteIs v entropy entropy_after out out_after (Ok done)
judged_written (writes plan) entropy entropy_after out out_after output done says wrote = record {
  drawn = says.0;
  enough = says.1;
  draws = says.2;
  size = says.4;
  wrote = subst (λ (bytes : List ℕ). WritesWhole out out_after (Ok done) bytes) says.3 wrote;
}
judged_written (refused r p) entropy entropy_after out out_after output done says wrote = absurd says
judged_written too_long entropy entropy_after out out_after output done says wrote = absurd says

pub judged_unwritten : (v : Verdict) (entropy entropy_after : EntropySeen) (out out_after : SinkSeen)
    (output : Vec ℕ Global) (failed : Failed)
    → JudgeIs v entropy entropy_after (judgements.Written output)
    → WritesWhole out out_after (Err failed) output.items
    → WriteIs v entropy entropy_after out out_after (Err (whys.Cut cuts.Output))
judged_unwritten (writes plan) entropy entropy_after out out_after output failed says wrote = (
  failed,
  record {
    drawn = says.0;
    enough = says.1;
    draws = says.2;
    size = says.4;
    wrote = subst (λ (bytes : List ℕ). WritesWhole out out_after (Err failed) bytes) says.3 wrote;
  },
)
judged_unwritten (refused r p) entropy entropy_after out out_after output failed says wrote = absurd says
judged_unwritten too_long entropy entropy_after out out_after output failed says wrote = absurd says

-- it was refused, or too long, or there were too few blocks, or no memory
pub judged_refused : (v : Verdict) (entropy entropy_after : EntropySeen) (out : SinkSeen) (r : Number) (p : List ℕ)
    → JudgeIs v entropy entropy_after (judgements.Refused r p)
    → WriteIs v entropy entropy_after out out (Err (whys.Finished (finishes.Refused r p)))
judged_refused (writes plan) entropy entropy_after out r p says = absurd says
judged_refused (refused reason place) entropy entropy_after out r p says =
    (says.0, says.1, record { draws = says.2; same = refl })
judged_refused too_long entropy entropy_after out r p says = absurd says

pub judged_long : (v : Verdict) (entropy entropy_after : EntropySeen) (out : SinkSeen)
    → JudgeIs v entropy entropy_after judgements.TooLong
    → WriteIs v entropy entropy_after out out (Err (whys.Finished (finishes.Limit bounds.Output)))
judged_long (writes plan) entropy entropy_after out says = absurd says
judged_long (refused reason place) entropy entropy_after out says = absurd says
judged_long too_long entropy entropy_after out says = record { draws = says; same = refl }

pub judged_undrawn : (v : Verdict) (entropy entropy_after : EntropySeen) (out : SinkSeen)
    → JudgeIs v entropy entropy_after judgements.Undrawn
    → WriteIs v entropy entropy_after out out (Err (whys.Cut cuts.Entropy))
judged_undrawn (writes plan) entropy entropy_after out says = (says, refl)
judged_undrawn (refused reason place) entropy entropy_after out says = absurd says
judged_undrawn too_long entropy entropy_after out says = absurd says

pub judged_unkept : (v : Verdict) (entropy entropy_after : EntropySeen) (out : SinkSeen)
    → JudgeIs v entropy entropy_after judgements.Memory
    → WriteIs v entropy entropy_after out out (Err (whys.Cut cuts.Memory))
judged_unkept (writes plan) entropy entropy_after out says = record { draws = says; same = refl }
judged_unkept (refused reason place) entropy entropy_after out says = record { draws = says; same = refl }
judged_unkept too_long entropy entropy_after out says = record { draws = says; same = refl }
