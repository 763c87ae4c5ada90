-- What a run wrote whose outputs are those of accepted commands: their sealed forms, all of them or the first.
use Rattle.std.proofs.Common.{◌≡◌, ℕ, ◌+◌, ◌^◌, ◌<◌, true, false, cond, nat_lt, Option, List, [], ◌∷◌, ◌++◌, length}
use Rattle.std.proofs.Common.{take, drop, refl, sym, ap, ap₂, subst, arith}
use Rattle.std.specs.List.{All}
use Rattle.std.specs.Prelude.{flat_map}
use Rattle.std.proofs.lemmas.List.{length-drop, length-take-le, nil_from_length, take-append-drop}
use Rattle.std.proofs.lemmas.List.Elements.{All-drop, All-take}
use Rattle.std.proofs.Math.Seq.{drop-append_seam, take-append_seam}
use Rattle.bson_tree.specs.Spelling.{doc_bytes, items_bytes}
use Rattle.bson_tree.specs.Tree.{Items}
use Rattle.context_machine.specs.Rings.{found_in}
use Rattle.doc_rewrite.specs.Sealed.{sealed}
use Rattle.fle_outside.specs.Blocks.{AreBlocks, Block, IsBlock}
use Rattle.fle_outside.specs.Seen.{EntropySeen, Gains, SinkSeen}
use Rattle.fle_outside.specs.Writing.{IsProperPrefix}
use Rattle.fle_stream.specs.Codes.{status_of, status_of_cut, status_of_finish}
use Rattle.fle_stream.specs.Ended.{Whole}
use Rattle.fle_stream.specs.Outcome.{Outcome, finished, judged}
use Rattle.fle_stream.specs.Pairs.{within_limit}
use Rattle.fle_stream.specs.Plan.{Output, Plan, Verdict, writes, refused, too_long, draws_of, written}
use Rattle.fle_stream.specs.Run.{CutsIn, EndsIn, Ran}
use Rattle.fle_stream.specs.declared.status.Status.{Status}
use Rattle.fle_stream.specs.declared.why.Bound.TheVariants as bounds
use Rattle.fle_stream.specs.declared.why.Cut.{Cut}
use Rattle.fle_stream.specs.declared.why.Cut.TheVariants as cuts
use Rattle.fle_stream.specs.declared.why.Finish.{Finish}
use Rattle.fle_stream.specs.declared.why.Finish.TheVariants as finishes
use Rattle.fle_stream.specs.declared.why.Why.{Why}
use Rattle.fle_stream.specs.declared.why.Why.TheVariants as whys
use Rattle.fle_runner.specs.Encrypt.{at_front}
use Rattle.fle_runner.specs.Headline.{AreByUuid, AreSealedUnder, SealsAllOf, SealsFirstOf, SealsNext, Setup}
use Rattle.fle_runner.specs.Headline.{sites_in, verdict_of}
use Rattle.fle_runner.proofs.IfAccepted.{if_accepted, in_time}
use Rattle.fle_runner.proofs.Headline.{is_accepted, sealed_under}

-- outputs are those of these commands, one by one, each of bytes and from a document or more
abbrev pub AreOutputs : Setup → List Items → List Output → Type 0
AreOutputs x [] [] = Unit {0}
AreOutputs x [] (o ∷ os) = ⊥
AreOutputs x (c ∷ cs) [] = ⊥
AreOutputs x (c ∷ cs) (o ∷ os) =
    All (λ b. b < 256) (items_bytes c) × (verdict_of x c ≡ writes o.plan) × (0 < o.documents) × AreOutputs x cs os

-- ---- the outputs of a course

module _ (x : Setup) where
  -- documents that come to this, before others
  pub made_judged : (v : Verdict) (number d n : ℕ) (c : Items) (cs : List Items) (o : Outcome) → 0 < d
      → All (λ b. b < 256) (items_bytes c) → verdict_of x c ≡ v → AreOutputs x cs o.outputs
      → AreOutputs x (if_accepted v c cs) (judged v number d n o).outputs
  made_judged (writes plan) number d n c cs o some bytes is made = (bytes, is, some, made)
  made_judged (refused reason place) number d n c cs o some bytes is made = tt
  made_judged too_long number d n c cs o some bytes is made = tt

  pub made_within : (taken number used : ℕ) (cs : List Items) (o : Outcome) → AreOutputs x cs o.outputs
      → AreOutputs x (in_time taken cs) (within_limit taken number used o).outputs
  made_within taken number used cs o made =
      elim (nat_lt taken (2 ^ 40))
      as (λ b. AreOutputs x (cond b cs []) (cond b o (finished (finishes.Limit bounds.Stream) number used)).outputs)
      [ true ↦ made | false ↦ tt ]

  -- the commands of the first of them, and those of the others
  outputs_split : (cs : List Items) (done rest : List Output) → AreOutputs x cs (done ++ rest)
      → (whole : List Items)
      × (others : List Items)
      × (cs ≡ whole ++ others)
      × AreOutputs x whole done
      × AreOutputs x others rest
  outputs_split cs [] rest made = ([], cs, refl, tt, made)
  outputs_split [] (o ∷ os) rest made = absurd made
  outputs_split (c ∷ cs) (o ∷ os) rest made =
      let s = outputs_split cs os rest made.3 in
      (c ∷ s.0, s.1, ap (λ (ds : List Items). c ∷ ds) s.2, (made.0, made.1, made.2, s.3), s.4)

-- ---- what is written of them

-- what is written of these outputs with these blocks is the sealed form of these commands
pub record Sealing (x : Setup) (cs : List Items) (outputs : List Output) (blocks : List Block) : Type 0 where
  pub sealed : List Items
  pub each : AreSealedUnder x cs blocks sealed
  pub bytes : flat_map doc_bytes sealed ≡ written outputs blocks

module _ (x : Setup) (uuids : AreByUuid x.keys) where
  outputs_sealed : (cs : List Items) (os : List Output) (blocks : List Block) → AreOutputs x cs os → AreBlocks blocks
      → length blocks ≡ draws_of os → Sealing x cs os blocks
  outputs_sealed [] [] blocks made are count =
      record { sealed = []; each = nil_from_length blocks count; bytes = refl }
  outputs_sealed [] (o ∷ os) blocks made are count = absurd made
  outputs_sealed (c ∷ cs) [] blocks made are count = absurd made
  outputs_sealed (c ∷ cs) (o ∷ os) blocks made are count =
      let plan = o.plan in
      let own = take plan.draws blocks in
      let rest = drop plan.draws blocks in
      let a = is_accepted x c plan made.1 in
      let own_long : length own ≡ plan.draws = length-take-le plan.draws blocks (omega (arith, count)) in
      let rest_long : length rest ≡ draws_of os = omega (arith, count, length-drop plan.draws blocks) in
      let s = outputs_sealed cs os rest made.3 (All-drop IsBlock plan.draws blocks are) rest_long in
      let first = sealed_under x uuids c plan own made.0 a (All-take IsBlock plan.draws blocks are) own_long in
      record {
        sealed = sealed (found_in x.keys) (sites_in x c) own (at_front c) ∷ s.sealed;
        each = (own, rest, sym (take-append-drop plan.draws blocks), first, s.each);
        bytes = ap₂ (λ (xs ys : List ℕ). xs ++ ys) (ap (λ (p : Plan). p.bytes own) (sym a.is)) s.bytes;
      }

  -- what came of the next output where the run was cut short
  cut_next : (cut : Cut) (others : List Items) (rest : List Output) (more : List Block) (part : List ℕ)
      → AreOutputs x others rest → AreBlocks more → CutsIn cut rest more part
      → SealsNext x (status_of_cut cut) others more part
  cut_next cuts.Folder others rest more part made are ends = ends
  cut_next cuts.Input others rest more part made are ends = ends
  cut_next cuts.Output others [] more part made are ends = absurd ends
  cut_next cuts.Output [] (o ∷ os) more part made are ends = absurd made
  cut_next cuts.Output (c ∷ cs) (o ∷ os) more part made are ends =
      let a = is_accepted x c o.plan made.1 in (
        sealed (found_in x.keys) (sites_in x c) more (at_front c),
        sealed_under x uuids c o.plan more made.0 a are ends.0,
        subst (λ (p : Plan). IsProperPrefix part (p.bytes more)) a.is ends.1,
      )
  cut_next cuts.Entropy others [] more part made are ends = absurd ends
  cut_next cuts.Entropy [] (o ∷ os) more part made are ends = absurd made
  cut_next cuts.Entropy (c ∷ cs) (o ∷ os) more part made are ends =
      (subst (λ (p : Plan). length more < p.draws) (is_accepted x c o.plan made.1).is ends.0, ends.1)
  cut_next cuts.Memory others [] more part made are ends = ends
  cut_next cuts.Memory [] (o ∷ os) more part made are ends = absurd made
  cut_next cuts.Memory (c ∷ cs) (o ∷ os) more part made are ends = (ends.0.0 made.2, ends.1)

  nothing_next : (finish : Finish) (others : List Items) (more : List Block) (part : List ℕ) → more ≡ [] → part ≡ []
      → SealsNext x (status_of_finish finish) others more part
  nothing_next finishes.Done others more part undrawn unwritten = (undrawn, unwritten)
  nothing_next (finishes.Refused reason place) others more part undrawn unwritten = (undrawn, unwritten)
  nothing_next (finishes.Malformed fault) others more part undrawn unwritten = (undrawn, unwritten)
  nothing_next (finishes.Limit bound) others more part undrawn unwritten = (undrawn, unwritten)
  nothing_next finishes.Words others more part undrawn unwritten = (undrawn, unwritten)
  nothing_next (finishes.Setup file fault document) others more part undrawn unwritten = (undrawn, unwritten)
  nothing_next (finishes.Key reason document) others more part undrawn unwritten = (undrawn, unwritten)

  ends_next : (why : Why) (number : ℕ) (o : Outcome) (others : List Items) (rest : List Output) (more : List Block)
      (part : List ℕ) (first read : ℕ) (spans told : List ℕ) (after : Option (List ℕ)) → AreOutputs x others rest
      → AreBlocks more → EndsIn why number o rest more part first read spans told after
      → SealsNext x (status_of why) others more part
  ends_next (whys.Finished finish) number o others rest more part first read spans told after made are ends =
      nothing_next finish others more part ends.undrawn ends.unwritten
  ends_next (whys.Cut cut) number o others rest more part first read spans told after made are ends =
      cut_next cut others rest more part made are ends.0

-- ---- a run

front_blocks : (first more : List Block) → AreBlocks (first ++ more) → AreBlocks first
front_blocks first more are =
    subst AreBlocks (take-append_seam first more) (All-take IsBlock (length first) (first ++ more) are)

further_blocks : (first more : List Block) → AreBlocks (first ++ more) → AreBlocks more
further_blocks first more are =
    subst AreBlocks (drop-append_seam first more) (All-drop IsBlock (length first) (first ++ more) are)

-- all outputs were written whole
pub seals_all_of : (x : Setup) (cs : List Items) (o : Outcome) (entropy entropy_after : EntropySeen)
    (out out_after : SinkSeen) → AreByUuid x.keys → AreOutputs x cs o.outputs
    → Whole o entropy entropy_after out out_after → SealsAllOf x cs entropy entropy_after out out_after
seals_all_of x cs o entropy entropy_after out out_after uuids made w =
    let s = outputs_sealed x uuids cs o.outputs w.drawn made w.draws.blocks w.enough in
    record {
      sealed = s.sealed;
      blocks = w.drawn;
      each = s.each;
      draws = w.draws;
      gains = subst (λ (bytes : List ℕ). Gains out.told out_after.told bytes) (sym s.bytes) w.gains;
    }

-- whatever cut it short
pub seals_first_of : (x : Setup) (cs : List Items) (o : Outcome) {start : ℕ} {told : List ℕ}
    {after : Option (List ℕ)} {spans : List ℕ → List ℕ} {entropy entropy_after : EntropySeen}
    {out out_after : SinkSeen} {number : ℕ} {why : Why}
    {status : Status} → AreByUuid x.keys → AreOutputs x cs o.outputs → status ≡ status_of why
    → Ran o start told after spans entropy entropy_after out out_after number why
    → SealsFirstOf x cs status entropy entropy_after out out_after
seals_first_of x cs o {told = told} {after = after} {out = out} {out_after = out_after} {number = number} {why = why}
    uuids made is ran =
    let f = outputs_split x cs ran.done ran.rest (subst (λ (os : List Output). AreOutputs x cs os) ran.split made) in
    let s = outputs_sealed x uuids f.0 ran.done ran.first f.3 (front_blocks ran.first ran.more ran.draws.blocks)
    ran.enough in
    record {
      whole = f.0;
      others = f.1;
      split = f.2;
      sealed = s.sealed;
      blocks = ran.first;
      more = ran.more;
      each = s.each;
      draws = ran.draws;
      part = ran.part;
      next = subst (λ (st : Status). SealsNext x st f.1 ran.more ran.part) (sym is)
          (ends_next x uuids why number o f.1 ran.rest ran.more ran.part _ _ _ told after f.4
          (further_blocks ran.first ran.more ran.draws.blocks) ran.end);
      gains = subst (λ (bytes : List ℕ). Gains out.told out_after.told (bytes ++ ran.part)) (sym s.bytes) ran.gains;
    }
