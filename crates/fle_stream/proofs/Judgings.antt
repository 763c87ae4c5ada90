-- One document judged: what its verdict makes of the run.
use Rattle.std.proofs.Common.{◌≡◌, ℕ, ◌+◌, ◌^◌, ◌<◌, ◌≤◌, Option, Some, List, [], ◌∷◌, drop, nat_lt, true}
use Rattle.std.proofs.Common.{false, refl, sym, ◌∙◌, ap, subst, arith, append-nil, zero-add}
use Rattle.std.proofs.lemmas.Bool.Decides.{nat_tests}
use Rattle.bson_tree.specs.Tree.{Items}
use Rattle.fle_outside.specs.Blocks.{Block}
use Rattle.fle_outside.specs.Seen.{Draws, EntropySeen, Gains, SinkSeen}
use Rattle.fle_stream.specs.Judge.{JudgeIs}
use Rattle.fle_stream.specs.Outcome.{Outcome, finished, rest_finish, judged, outcome}
use Rattle.fle_stream.specs.Plan.{Output, Verdict, writes, refused, too_long, size_of, draws_of, size_in, draws_in}
use Rattle.fle_stream.specs.Run.{CutsIn, HandedPast, LastStep, total}
use Rattle.fle_stream.specs.Streams.{Docs, doc, ends, Rest, rest_size}
use Rattle.fle_stream.specs.declared.why.Number.{Number}
use Rattle.fle_stream.specs.declared.why.Finish.{Finish}
use Rattle.fle_stream.specs.declared.why.Finish.TheVariants as finishes
use Rattle.fle_stream.specs.declared.why.Cut.TheVariants as cuts
use Rattle.fle_stream.specs.declared.why.Why.TheVariants as whys
use Rattle.fle_stream.specs.declared.why.Bound.TheVariants as bounds
use Rattle.fle_stream.specs.declared.judging.Judged.TheVariants as judgements

-- before the limit of the stream the next document is judged, or the end is reached
below_limit : (taken : ℕ) → taken < 2 ^ 40 → nat_lt taken (2 ^ 40) ≡ true
below_limit taken few = grind (arith, nat_tests)

pub outcome_doc : (v : Items → Verdict) (number taken n : ℕ) (is : Items) (docs : Docs) → taken < 2 ^ 40
    → outcome v number taken (doc n is docs) ≡ judged (v is) number 1 n (outcome v (number + 1) (taken + n) docs)
unfolding outcome
outcome_doc v number taken n is docs few = rw (below_limit taken few) refl

pub outcome_end : (v : Items → Verdict) (number taken : ℕ) (rest : Rest) → taken < 2 ^ 40
    → outcome v number taken (ends rest) ≡ finished (rest_finish rest) number (rest_size rest)
unfolding outcome
outcome_end v number taken rest few = rw (below_limit taken few) refl

pub outcome_late : (v : Items → Verdict) (number taken : ℕ) (docs : Docs) → 2 ^ 40 ≤ taken
    → outcome v number taken docs ≡ finished (finishes.Limit bounds.Stream) number 0
unfolding outcome
outcome_late v number taken (ends rest) many = let t : nat_lt taken (2 ^ 40) ≡ false =
    grind (arith, nat_tests) in rw t refl
outcome_late v number taken (doc n is docs) many = let t : nat_lt taken (2 ^ 40) ≡ false =
    grind (arith, nat_tests) in rw t refl

-- nothing was written
pub gains_none : (out : Option (List ℕ)) → Gains out out []
gains_none out = λ w is. is ∙ ap (λ (bytes : List ℕ). Some bytes) (sym (append-nil w))

-- nothing cut the run short, and no output comes before its end
pub step_finished : (o : Outcome) (first : ℕ) (told : List ℕ) (after : Option (List ℕ)) (spans : List ℕ)
    (entropy entropy_after : EntropySeen) (out : SinkSeen) (finish : Finish) (number used : ℕ)
    → o ≡ finished finish number used → after ≡ Some (drop used told) → Draws entropy entropy_after []
    → LastStep o first told after spans entropy entropy_after out out number (whys.Finished finish)
step_finished o first told after spans entropy entropy_after out finish number used is left draws =
    subst (λ (x : Outcome). LastStep x first told after spans entropy entropy_after out out number
    (whys.Finished finish))
    (sym is)
    (record {
      more = [];
      draws = draws;
      part = [];
      gains = gains_none out.told;
      end = record { same = refl; at = refl; all = refl; undrawn = refl; unwritten = refl; left = left };
    })

-- the input failed at the first document of the step
pub step_unread : (o : Outcome) (told : List ℕ) (after : Option (List ℕ)) (span : ℕ) (spans : List ℕ)
    (entropy entropy_after : EntropySeen) (out : SinkSeen) (number : ℕ)
    → HandedPast 0 span told after → Draws entropy entropy_after []
    → LastStep o number told after (span ∷ spans) entropy entropy_after out out number (whys.Cut cuts.Input)
step_unread o told after span spans entropy entropy_after out number left draws = record {
  more = [];
  draws = draws;
  part = [];
  gains = gains_none out.told;
  end = (
    (refl, refl),
    record {
      before = 0;
      at = omega arith;
      among = omega arith;
      taken = left.0;
      least = omega arith;
      most = omega (arith, left.1);
      left = left.2;
    },
  );
}

-- and at the one behind it
pub step_unanswered : (o : Outcome) (told : List ℕ) (after : Option (List ℕ)) (n m : ℕ) (spans : List ℕ)
    (entropy entropy_after : EntropySeen) (out : SinkSeen) (number : ℕ)
    → HandedPast n m told after → Draws entropy entropy_after []
    → LastStep o number told after (n ∷ m ∷ spans) entropy entropy_after out out (number + 1) (whys.Cut cuts.Input)
step_unanswered o told after n m spans entropy entropy_after out number left draws = record {
  more = [];
  draws = draws;
  part = [];
  gains = gains_none out.told;
  end = (
    (refl, refl),
    record {
      before = 1;
      at = refl;
      among = omega arith;
      taken = n + left.0;
      least = omega arith;
      most = omega (arith, left.1);
      left = left.2 ∙ ap (λ (k : ℕ). Some (drop k told)) (sym (zero-add (n + left.0)));
    },
  );
}

-- there was no memory: so many blocks of the next output were drawn
pub step_memory : (o : Outcome) (first : ℕ) (told : List ℕ) (after : Option (List ℕ)) (spans : List ℕ)
    (entropy entropy_after : EntropySeen) (out : SinkSeen) (number : ℕ) (more : List Block)
    → CutsIn cuts.Memory o.outputs more [] → HandedPast 0 (total spans) told after → Draws entropy entropy_after more
    → LastStep o first told after spans entropy entropy_after out out number (whys.Cut cuts.Memory)
step_memory o first told after spans entropy entropy_after out number more end left draws = record {
  more = more;
  draws = draws;
  part = [];
  gains = gains_none out.told;
  end = (end, left);
}

pub memory_none : (outputs : List Output) → CutsIn cuts.Memory outputs [] []
memory_none [] = (refl, refl)
memory_none (o ∷ os) = ((λ _. refl, omega arith), refl)

-- the document's bytes were taken
pub past : (n most : ℕ) (told : List ℕ) (after : Option (List ℕ)) → n ≤ most → after ≡ Some (drop n told)
    → HandedPast 0 most told after
past n most told after within is = (n, within, is ∙ ap (λ (k : ℕ). Some (drop k told)) (sym (zero-add n)))

-- the document was refused
pub refusal : (v : Verdict) (o : Outcome) (number d n : ℕ) (spans : List ℕ) (told : List ℕ) (after : Option (List ℕ))
    (entropy entropy_after : EntropySeen) (out : SinkSeen) (reason : Number) (place : List ℕ)
    → after ≡ Some (drop n told) → JudgeIs v entropy entropy_after (judgements.Refused reason place)
    → LastStep (judged v number d n o) number told after spans entropy entropy_after out out number
    (whys.Finished (finishes.Refused reason place))
refusal (writes plan) o number d n spans told after entropy entropy_after out reason place left says = absurd says
refusal (refused r p) o number d n spans told after entropy entropy_after out reason place left says =
    let is : finished (finishes.Refused r p) number n ≡ finished (finishes.Refused reason place) number n =
    ap (λ (x : Number). finished (finishes.Refused x p) number n) says.0
    ∙ ap (λ (x : List ℕ). finished (finishes.Refused reason x) number n) says.1 in
    step_finished (finished (finishes.Refused r p) number n) number told after spans entropy entropy_after out
    (finishes.Refused reason place) number n is left says.2
refusal too_long o number d n spans told after entropy entropy_after out reason place left says = absurd says

-- its output is above the limit
pub above : (v : Verdict) (o : Outcome) (number d n : ℕ) (spans : List ℕ) (told : List ℕ) (after : Option (List ℕ))
    (entropy entropy_after : EntropySeen) (out : SinkSeen)
    → after ≡ Some (drop n told) → JudgeIs v entropy entropy_after judgements.TooLong
    → LastStep (judged v number d n o) number told after spans entropy entropy_after out out number
    (whys.Finished (finishes.Limit bounds.Output))
above (writes plan) o number d n spans told after entropy entropy_after out left says = absurd says
above (refused r p) o number d n spans told after entropy entropy_after out left says = absurd says
above too_long o number d n spans told after entropy entropy_after out left says =
    step_finished (finished (finishes.Limit bounds.Output) number n) number told after spans entropy entropy_after out
    (finishes.Limit bounds.Output) number n refl left says

-- a block couldn't be drawn for it
pub undrawn : (v : Verdict) (o : Outcome) (number d n : ℕ) (spans : List ℕ) (told : List ℕ) (after : Option (List ℕ))
    (entropy entropy_after : EntropySeen) (out : SinkSeen)
    → n ≤ total spans → after ≡ Some (drop n told) → JudgeIs v entropy entropy_after judgements.Undrawn
    → LastStep (judged v number d n o) number told after spans entropy entropy_after out out number
    (whys.Cut cuts.Entropy)
undrawn (writes plan) o number d n spans told after entropy entropy_after out within left says = record {
  more = says.drawn;
  draws = says.first;
  part = [];
  gains = gains_none out.told;
  end = ((says.fewer, refl), (past n (total spans) told after within left, refl));
}
undrawn (refused r p) o number d n spans told after entropy entropy_after out within left says = absurd says
undrawn too_long o number d n spans told after entropy entropy_after out within left says = absurd says

-- there was no memory for it
pub unjudged : (v : Verdict) (o : Outcome) (number d n : ℕ) (spans : List ℕ) (told : List ℕ) (after : Option (List ℕ))
    (entropy entropy_after : EntropySeen) (out : SinkSeen)
    → n ≤ total spans → after ≡ Some (drop n told) → JudgeIs v entropy entropy_after judgements.Memory
    → LastStep (judged v number d n o) number told after spans entropy entropy_after out out number
    (whys.Cut cuts.Memory)
unjudged (writes plan) o number d n spans told after entropy entropy_after out within left says =
    step_memory (judged (writes plan) number d n o) number told after spans entropy entropy_after out number []
    ((λ _. refl, omega arith), refl) (past n (total spans) told after within left) says
unjudged (refused r p) o number d n spans told after entropy entropy_after out within left says =
    step_memory (finished (finishes.Refused r p) number n) number told after spans entropy entropy_after out number []
    (refl, refl) (past n (total spans) told after within left) says
unjudged too_long o number d n spans told after entropy entropy_after out within left says =
    step_memory (finished
    (finishes.Limit bounds.Output) number n) number told after spans entropy entropy_after out number []
    (refl, refl) (past n (total spans) told after within left) says

-- the bytes of its output are among those of all outputs, and so are its blocks
pub size_in-≤ : (v : Verdict) (number d n : ℕ) (o : Outcome)
    → size_in v ≤ size_of (judged v number d n o).outputs
size_in-≤ (writes plan) number d n o = omega arith
size_in-≤ (refused r p) number d n o = omega arith
size_in-≤ too_long number d n o = omega arith

pub draws_in-≤ : (v : Verdict) (number d n : ℕ) (o : Outcome)
    → draws_in v ≤ draws_of (judged v number d n o).outputs
draws_in-≤ (writes plan) number d n o = omega arith
draws_in-≤ (refused r p) number d n o = omega arith
draws_in-≤ too_long number d n o = omega arith
