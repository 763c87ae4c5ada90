-- A run whose outputs draw no block did the same whatever blocks are to come.
use Rattle.std.proofs.Common.{◌≡◌, ℕ, ◌+◌, ◌^◌, Option, List, [], ◌∷◌, ◌++◌, length, refl, sym, ◌∙◌, ap, subst}
use Rattle.std.proofs.Common.{arith, inl, inr, length-append}
use Rattle.std.proofs.lemmas.Bool.{cases_lt}
use Rattle.bson_tree.specs.Tree.{Items}
use Rattle.fle_outside.specs.Blocks.{Block}
use Rattle.fle_outside.specs.Seen.{Draws, EntropySeen, SinkSeen}
use Rattle.fle_outside.proofs.Drawings.{draws_none}
use Rattle.fle_stream.specs.Did.{Did}
use Rattle.fle_stream.specs.Outcome.{Outcome, judged, outcome}
use Rattle.fle_stream.specs.Plan.{DrawsNone, Output, Verdict, draws_in, draws_of, writes, refused, too_long}
use Rattle.fle_stream.specs.Run.{EndsIn, Ran}
use Rattle.fle_stream.specs.Streams.{Docs, doc, documents, ends}
use Rattle.fle_stream.specs.Task.{each}
use Rattle.fle_stream.specs.declared.why.Cut.TheVariants as cuts
use Rattle.fle_stream.specs.declared.why.Why.{Why}
use Rattle.fle_stream.specs.declared.why.Why.TheVariants as whys
use Rattle.fle_stream.proofs.Judgings.{outcome_doc, outcome_end, outcome_late}
use Rattle.fle_stream.proofs.Turnings.{draws_of-append, no_blocks}

-- a document that draws no block, and others behind it that draw none
judged_draws : (w : Verdict) (number d n : ℕ) (o : Outcome) → draws_in w ≡ 0 → draws_of o.outputs ≡ 0
    → draws_of (judged w number d n o).outputs ≡ 0
judged_draws (writes plan) number d n o none behind = omega (arith, none, behind)
judged_draws (refused reason place) number d n o none behind = refl
judged_draws too_long number d n o none behind = refl

-- where no document draws one, all outputs draw none
pub none_drawn : (v : Items → Verdict) (number taken : ℕ) (docs : Docs) → DrawsNone v
    → draws_of (outcome v number taken docs).outputs ≡ 0
none_drawn v number taken (ends rest) quiet =
    elim (cases_lt taken (2 ^ 40)) [
      | inl few ↦ ap (λ (o : Outcome). draws_of o.outputs) (outcome_end v number taken rest few)
      | inr many ↦ ap (λ (o : Outcome). draws_of o.outputs) (outcome_late v number taken (ends rest) many)
    ]
none_drawn v number taken (doc n is docs) quiet =
    let behind = none_drawn v (number + 1) (taken + n) docs quiet in
    elim (cases_lt taken (2 ^ 40)) [
      | inl few ↦ (ap (λ (o : Outcome). draws_of o.outputs) (outcome_doc v number taken n is docs few)
          ∙ judged_draws (v is) number 1 n (outcome v (number + 1) (taken + n) docs) (quiet is) behind)
      | inr many ↦ ap (λ (o : Outcome). draws_of o.outputs) (outcome_late v number taken (doc n is docs) many)
    ]

-- so the next output drew none, whatever cut the run short
more_none : (why : Why) (number : ℕ) (o : Outcome) (rest : List Output) (more : List Block) (part : List ℕ)
    (first read : ℕ) (spans told : List ℕ) (after : Option (List ℕ))
    → draws_of rest ≡ 0 → EndsIn why number o rest more part first read spans told after → length more ≡ 0
more_none (whys.Finished finish) number o rest more part first read spans told after none end = ap length end.undrawn
more_none (whys.Cut cuts.Folder) number o rest more part first read spans told after none end = ap length end.0.0
more_none (whys.Cut cuts.Input) number o rest more part first read spans told after none end = ap length end.0.0
more_none (whys.Cut cuts.Output) number o [] more part first read spans told after none end = absurd end.0
more_none (whys.Cut cuts.Output) number o (x ∷ xs) more part first read spans told after none end =
    omega (arith, none, end.0.0)
more_none (whys.Cut cuts.Entropy) number o [] more part first read spans told after none end = absurd end.0
more_none (whys.Cut cuts.Entropy) number o (x ∷ xs) more part first read spans told after none end =
    absurd (omega (arith, none, end.0.0))
more_none (whys.Cut cuts.Memory) number o [] more part first read spans told after none end = ap length end.0.0
more_none (whys.Cut cuts.Memory) number o (x ∷ xs) more part first read spans told after none end =
    omega (arith, none, end.0.0.1)

-- and the run is one of any source of blocks
ran_undrawn : (o : Outcome) (start : ℕ) (told : List ℕ) (after : Option (List ℕ)) (spans : List ℕ
    → List ℕ) (before now e : EntropySeen) (out out_after : SinkSeen) (number : ℕ) (why : Why)
    → draws_of o.outputs ≡ 0 → Ran o start told after spans before now out out_after number why
    → Ran o start told after spans e e out out_after number why
ran_undrawn o start told after spans before now e out out_after number why none ran =
    let all : draws_of ran.done + draws_of ran.rest ≡ 0 =
    sym (draws_of-append ran.done ran.rest) ∙ (sym (ap draws_of ran.split) ∙ none) in
    let more : length ran.more ≡ 0 = more_none why number o ran.rest ran.more ran.part _ _ _ told after
    (omega (arith, all)) ran.end in
    let blocks : ran.first ++ ran.more ≡ [] = no_blocks (ran.first ++ ran.more)
    (omega (arith, length-append ran.first ran.more, ran.enough, all, more)) in
    record {
      done = ran.done;
      rest = ran.rest;
      split = ran.split;
      first = ran.first;
      more = ran.more;
      enough = ran.enough;
      draws = subst (λ (bs : List Block). Draws e e bs) (sym blocks) (draws_none e);
      part = ran.part;
      gains = ran.gains;
      end = ran.end;
    }

-- a verb whose judge draws no block did what it did whatever blocks are to come
pub did_undrawing : (v : Items → Verdict) (told : List ℕ) (after : Option (List ℕ)) (before now e : EntropySeen)
    (out out_after : SinkSeen) (number : ℕ) (why : Why) → DrawsNone v
    → Did (each v) told after before now out out_after number why
    → Did (each v) told after e e out out_after number why
unfolding ran_undrawn
did_undrawing v told after before now e out out_after number why quiet did = record {
  ran =
      ran_undrawn (outcome v 1 0 (documents told)) 1 told after _ before now e out out_after number why
      (none_drawn v 1 0 (documents told) quiet) did.ran;
  unread = did.unread;
}
