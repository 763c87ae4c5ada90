-- What a run of `encrypt` or `decrypt` wrote: the outputs of its stream, all of them or, where something cut it short,
-- the first.
use Rattle.std.proofs.Common.{◌≡◌, ℕ, ◌+◌, ◌^◌, ◌<◌, ◌∙◌, true, false, cond, nat_lt, Option, List, [], ◌∷◌, ◌++◌}
use Rattle.std.proofs.Common.{length, refl, sym, ap, subst, arith}
use Rattle.std.specs.List.{All}
use Rattle.bson_tree.specs.Spelling.{doc_bytes}
use Rattle.bson_tree.specs.Tree.{Items}
use Rattle.fle_outside.specs.Blocks.{Block}
use Rattle.fle_outside.specs.Seen.{EntropySeen, Gains, SinkSeen}
use Rattle.fle_stream.specs.Codes.{status_of, status_of_cut, status_of_finish}
use Rattle.fle_stream.specs.Ended.{Whole}
use Rattle.fle_stream.specs.Outcome.{Outcome, finished, outcome, rest_finish}
use Rattle.fle_stream.specs.Plan.{Output, written}
use Rattle.fle_stream.specs.Run.{CutsIn, EndsIn, Ran}
use Rattle.fle_stream.specs.Streams.{Docs, doc, documents, ends, rest_size}
use Rattle.fle_stream.specs.Task.{each, outcome_of}
use Rattle.fle_stream.specs.declared.status.Status.{Status}
use Rattle.fle_stream.specs.declared.why.Bound.TheVariants as bounds
use Rattle.fle_stream.specs.declared.why.Cut.{Cut}
use Rattle.fle_stream.specs.declared.why.Cut.TheVariants as cuts
use Rattle.fle_stream.specs.declared.why.Finish.{Finish}
use Rattle.fle_stream.specs.declared.why.Finish.TheVariants as finishes
use Rattle.fle_stream.specs.declared.why.Why.{Why}
use Rattle.fle_stream.specs.declared.why.Why.TheVariants as whys
use Rattle.fle_runner.specs.Headline.{AreByUuid, OpensFirst, OpensNext, SealsFirst, SealsStream, Setup}
use Rattle.fle_runner.specs.Headline.{accepted_in, verdict_of}
use Rattle.fle_runner.specs.ReadBack.{outputs_back, read_whole, stream}
use Rattle.fle_runner.specs.Verdicts.{plain_plan}
use Rattle.fle_runner.proofs.Accepted.{accepted, accepted_is}
use Rattle.fle_runner.proofs.HeadlineOutputs.{AreOutputs, made_judged, made_within, seals_all_of, seals_first_of}
use Rattle.fle_runner.proofs.HeadlineReads.{AreRead, documents_read}

-- ---- of `encrypt`

-- the commands of a stream that are accepted are those of the outputs
docs_made : (x : Setup) (number taken : ℕ) (docs : Docs) → AreRead docs
    → AreOutputs x (accepted (verdict_of x) taken docs) (outcome (verdict_of x) number taken docs).outputs
unfolding outcome accepted
docs_made x number taken (ends rest) read =
    elim (nat_lt taken (2 ^ 40))
    as (λ b. AreOutputs x [] (cond b (finished (rest_finish rest) number (rest_size rest))
    (finished (finishes.Limit bounds.Stream) number 0)).outputs)
    [ true ↦ tt | false ↦ tt ]
docs_made x number taken (doc n c docs) read =
    made_within x taken number 0 _ _ (made_judged x (verdict_of x c) number 1 n c _ _ (omega arith) read.0.bytes refl
    (docs_made x (number + 1) (taken + n) docs read.1))

stream_made : (x : Setup) (told : List ℕ) → All (λ b. b < 256) told
    → AreOutputs x (accepted_in x 0 (documents told)) (outcome_of (each (verdict_of x)) told).outputs
stream_made x told all =
    subst (λ (cs : List Items). AreOutputs x cs (outcome_of (each (verdict_of x)) told).outputs)
    (accepted_is x 0 (documents told)) (docs_made x 1 0 (documents told) (documents_read told all))

-- all outputs were written whole
pub seals_stream : (x : Setup) (told : List ℕ) (entropy entropy_after : EntropySeen) (out out_after : SinkSeen)
    → AreByUuid x.keys → All (λ b. b < 256) told
    → Whole (outcome_of (each (verdict_of x)) told) entropy entropy_after out out_after
    → SealsStream x told entropy entropy_after out out_after
seals_stream x told entropy entropy_after out out_after uuids all w =
    seals_all_of x (accepted_in x 0 (documents told)) (outcome_of (each (verdict_of x)) told) entropy entropy_after out
    out_after uuids (stream_made x told all) w

-- whatever cut it short
pub seals_first : (x : Setup) (told : List ℕ) {after : Option (List ℕ)} {spans : List ℕ
    → List ℕ} {entropy entropy_after : EntropySeen} {out out_after : SinkSeen} {number : ℕ} {why : Why}
    {status : Status} → AreByUuid x.keys → All (λ b. b < 256) told → status ≡ status_of why
    → Ran (outcome_of (each (verdict_of x)) told) 1 told after spans entropy entropy_after out out_after number why
    → SealsFirst x told status entropy entropy_after out out_after
seals_first x told uuids all is ran =
    seals_first_of x (accepted_in x 0 (documents told)) (outcome_of (each (verdict_of x)) told) uuids
    (stream_made x told all) is ran

-- ---- and of `decrypt`

-- what is written of the first outputs are the first of the commands; the others have the outputs that are left
pub record Backing (cs : List Items) (outputs rest : List Output) (blocks : List Block) : Type 0 where
  pub whole : List Items
  pub others : List Items
  pub behind : List Items
  pub split : cs ≡ whole ++ others
  pub bytes : written outputs blocks ≡ stream whole
  pub left : outputs_back others behind ≡ rest

backs : (cs ds : List Items) (done rest : List Output) (blocks : List Block) → outputs_back cs ds ≡ done ++ rest
    → Backing cs done rest blocks
backs cs ds [] rest blocks is =
    record { whole = []; others = cs; behind = ds; split = refl; bytes = refl; left = is }
backs [] ds (o ∷ os) rest blocks is = absurd cc
backs (c ∷ cs) [] (o ∷ os) rest blocks is = absurd cc
backs (c ∷ cs) (d ∷ ds) (o ∷ os) rest blocks is =
    let first : Output = record { read = length (doc_bytes d); documents = 1; plan = plain_plan (doc_bytes c) } in
    let head : first ≡ o = cc in
    let tail : outputs_back cs ds ≡ os ++ rest = cc in
    let s = backs cs ds os rest blocks tail in
    subst (λ (q : Output). Backing (c ∷ cs) (q ∷ os) rest blocks) head
    (record {
      whole = c ∷ s.whole;
      others = s.others;
      behind = s.behind;
      split = ap (λ (es : List Items). c ∷ es) s.split;
      bytes = ap (λ (bytes : List ℕ). doc_bytes c ++ bytes) s.bytes;
      left = s.left;
    })

-- what came of the next command where the run was cut short
cut_back : (cut : Cut) (cs ds : List Items) (more : List Block) (part : List ℕ)
    → CutsIn cut (outputs_back cs ds) more part → OpensNext (status_of_cut cut) cs part
cut_back cuts.Folder cs ds more part end = end.1
cut_back cuts.Input cs ds more part end = end.1
cut_back cuts.Output [] ds more part end = absurd end
cut_back cuts.Output (c ∷ cs) [] more part end = absurd end
cut_back cuts.Output (c ∷ cs) (d ∷ ds) more part end = end.1
cut_back cuts.Entropy [] ds more part end = absurd end
cut_back cuts.Entropy (c ∷ cs) [] more part end = absurd end
cut_back cuts.Entropy (c ∷ cs) (d ∷ ds) more part end = end.1
cut_back cuts.Memory [] ds more part end = end.1
cut_back cuts.Memory (c ∷ cs) [] more part end = end.1
cut_back cuts.Memory (c ∷ cs) (d ∷ ds) more part end = end.1

nothing_back : (finish : Finish) (cs : List Items) (part : List ℕ) → part ≡ []
    → OpensNext (status_of_finish finish) cs part
nothing_back finishes.Done cs part unwritten = unwritten
nothing_back (finishes.Refused reason place) cs part unwritten = unwritten
nothing_back (finishes.Malformed fault) cs part unwritten = unwritten
nothing_back (finishes.Limit bound) cs part unwritten = unwritten
nothing_back finishes.Words cs part unwritten = unwritten
nothing_back (finishes.Setup file fault document) cs part unwritten = unwritten
nothing_back (finishes.Key reason document) cs part unwritten = unwritten

ends_back : (why : Why) (number : ℕ) (o : Outcome) (cs ds : List Items) (rest : List Output) (more : List Block)
    (part : List ℕ) (first read : ℕ) (spans told : List ℕ) (after : Option (List ℕ)) → outputs_back cs ds ≡ rest
    → EndsIn why number o rest more part first read spans told after → OpensNext (status_of why) cs part
ends_back (whys.Finished finish) number o cs ds rest more part first read spans told after left end =
    nothing_back finish cs part end.unwritten
ends_back (whys.Cut cut) number o cs ds rest more part first read spans told after left end =
    cut_back cut cs ds more part (subst (λ (os : List Output). CutsIn cut os more part) (sym left) end.0)

pub opens_first : (commands sealed : List Items) {o : Outcome} {told : List ℕ} {after : Option (List ℕ)} {start : ℕ}
    {spans : List ℕ → List ℕ} {entropy entropy_after : EntropySeen} {out out_after : SinkSeen} {number : ℕ} {why : Why}
    {status : Status} → o ≡ read_whole commands sealed → status ≡ status_of why
    → Ran o start told after spans entropy entropy_after out out_after number why
    → OpensFirst commands status out out_after
opens_first commands sealed {o = o} {told = told} {after = after} {out = out} {out_after = out_after} {number = number}
    {why = why} is ended ran =
    let s = backs commands sealed ran.done ran.rest ran.first (sym (ap (λ (p : Outcome). p.outputs) is) ∙ ran.split) in
    record {
      whole = s.whole;
      others = s.others;
      split = s.split;
      part = ran.part;
      next = subst (λ (st : Status). OpensNext st s.others ran.part) (sym ended)
          (ends_back why number o s.others s.behind ran.rest ran.more ran.part _ _ _ told after s.left ran.end);
      gains = subst (λ (bytes : List ℕ). Gains out.told out_after.told (bytes ++ ran.part)) s.bytes ran.gains;
    }
