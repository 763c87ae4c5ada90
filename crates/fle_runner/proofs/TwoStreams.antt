-- Streams of commands with equal skeletons have one end.
use Rattle.std.proofs.Common.{◌≡◌, ℕ, ◌+◌, ◌^◌, ◌∙◌, Bool, true, false, cond, nat_lt, List, refl, sym, ap, ap₂}
use Rattle.std.proofs.Common.{subst}
use Rattle.std.specs.List.{All}
use Rattle.std.specs.Prelude.{◌<◌}
use Rattle.bson_tree.specs.Tree.{Items}
use Rattle.encrypt_schema.specs.Commands.Skeletons.{skeleton}
use Rattle.encrypt_schema.specs.Commands.Targets.{rows_of}
use Rattle.encrypt_schema.specs.Language.Collection.{Collection}
use Rattle.fle_stream.specs.Outcome.{Outcome, finished, judged, outcome, rest_finish}
use Rattle.fle_stream.specs.Plan.{Verdict, writes, refused, too_long}
use Rattle.fle_stream.specs.Streams.{Docs, Rest, doc, documents, ends, rest_size}
use Rattle.fle_stream.specs.Task.{each, outcome_of}
use Rattle.fle_stream.specs.declared.why.Bound.TheVariants as bounds
use Rattle.fle_stream.specs.declared.why.Finish.TheVariants as finishes
use Rattle.fle_runner.specs.TwoStreams.{AreVerdictsAlike, EndAlike, HaveEqualSkeletons}
use Rattle.fle_runner.proofs.HeadlineReads.{AreRead, documents_read}
use Rattle.fle_runner.proofs.HeadlineWorlds.{equal_lengths}

judged_alike : (v w : Verdict) (number d n : ℕ) (o p : Outcome) → AreVerdictsAlike v w → EndAlike o p
    → EndAlike (judged v number d n o) (judged w number d n p)
judged_alike (writes a) (writes b) number d n o p alike rest = record {
  finish = rest.finish;
  number = rest.number;
  used = ap (λ (used : ℕ). n + used) rest.used;
  outputs = (refl, refl, alike, rest.outputs);
}
judged_alike (refused reason place) (refused other there) number d n o p alike rest = record {
  finish = ap₂ finishes.Refused alike.0 alike.1;
  number = refl;
  used = refl;
  outputs = tt;
}
judged_alike too_long too_long number d n o p alike rest = record {
  finish = refl;
  number = refl;
  used = refl;
  outputs = tt;
}
judged_alike (writes a) (refused other there) number d n o p alike rest = absurd alike
judged_alike (writes a) too_long number d n o p alike rest = absurd alike
judged_alike (refused reason place) (writes b) number d n o p alike rest = absurd alike
judged_alike (refused reason place) too_long number d n o p alike rest = absurd alike
judged_alike too_long (writes b) number d n o p alike rest = absurd alike
judged_alike too_long (refused other there) number d n o p alike rest = absurd alike

-- where nothing is judged any more
finished_alike : (b : Bool) (number : ℕ) (rest : Rest)
    → EndAlike (cond b (finished (rest_finish rest) number (rest_size rest))
    (finished (finishes.Limit bounds.Stream) number 0))
    (cond b (finished (rest_finish rest) number (rest_size rest)) (finished (finishes.Limit bounds.Stream) number 0))
finished_alike true number rest = record { finish = refl; number = refl; used = refl; outputs = tt }
finished_alike false number rest = record { finish = refl; number = refl; used = refl; outputs = tt }

next_alike : (b : Bool) (number : ℕ) (o p : Outcome) → EndAlike o p
    → EndAlike (cond b o (finished (finishes.Limit bounds.Stream) number 0))
    (cond b p (finished (finishes.Limit bounds.Stream) number 0))
next_alike true number o p alike = alike
next_alike false number o p alike = record { finish = refl; number = refl; used = refl; outputs = tt }

module _ (infos : List Collection) (v : Items → Verdict)
    (same : (c d : Items) → skeleton (rows_of infos c) c ≡ skeleton (rows_of infos c) d
    → AreVerdictsAlike (v c) (v d)) where
  alike_from : (number taken : ℕ) (docs others : Docs) → AreRead docs → AreRead others
      → HaveEqualSkeletons infos docs others → EndAlike (outcome v number taken docs) (outcome v number taken others)
  unfolding outcome
  alike_from number taken (ends rest) (ends other) read other_read e =
      subst (λ (r : Rest). EndAlike (outcome v number taken (ends rest)) (outcome v number taken (ends r))) e
      (finished_alike (nat_lt taken (2 ^ 40)) number rest)
  alike_from number taken (ends rest) (doc m d others) read other_read e = absurd e
  alike_from number taken (doc n c docs) (ends other) read other_read e = absurd e
  alike_from number taken (doc n c docs) (doc m d others) read other_read e =
      let long : n ≡ m = read.0.size ∙ (equal_lengths (rows_of infos c) c d e.0 ∙ sym other_read.0.size) in
      let rest = outcome v (number + 1) (taken + n) docs in
      subst (λ (k : ℕ). EndAlike (outcome v number taken (doc n c docs)) (outcome v number taken (doc k d others))) long
      (next_alike (nat_lt taken (2 ^ 40)) number (judged (v c) number 1 n rest)
      (judged (v d) number 1 n (outcome v (number + 1) (taken + n) others))
      (judged_alike (v c) (v d) number 1 n rest (outcome v (number + 1) (taken + n) others) (same c d e.0)
      (alike_from (number + 1) (taken + n) docs others read.1 other_read.1 e.1)))

  pub streams_alike : (told other : List ℕ) → All (λ b. b < 256) told → All (λ b. b < 256) other
      → HaveEqualSkeletons infos (documents told) (documents other)
      → EndAlike (outcome_of (each v) told) (outcome_of (each v) other)
  streams_alike told other bytes other_bytes e =
      alike_from 1 0 (documents told) (documents other) (documents_read told bytes) (documents_read other other_bytes) e
