-- The second half of a turn over pairs, exit by exit.
use Rattle.std.proofs.Common.{◌≡◌, ◌∙◌, ℕ, ◌+◌, ◌^◌, ◌<◌, ◌≤◌, true, false, List, [], ◌∷◌, drop, length, nat_lt}
use Rattle.std.proofs.Common.{Option, Some, None, refl, sym, ap, subst, arith}
use Rattle.std.proofs.lemmas.Bool.Decides.{nat_tests}
use Rattle.std.proofs.lemmas.List.{drop-drop, length-drop}
use Rattle.bson_tree.specs.Tree.{Items}
use Rattle.fle_outside.specs.Seen.{Draws, EntropySeen, SinkSeen}
use Rattle.fle_stream.specs.Check.{CheckIs}
use Rattle.fle_stream.specs.Next.{Handed}
use Rattle.fle_stream.specs.Outcome.{Outcome, finished}
use Rattle.fle_stream.specs.Pairs.{Pairing, Refused, answer_limit, answered, pair_spans, paired, unanswered}
use Rattle.fle_stream.specs.Pairs.{unless_refused}
use Rattle.fle_stream.specs.Run.{HandedPast, LastStep, total}
use Rattle.fle_stream.specs.Streams.{Docs, doc, ends, Rest, document_limit, documents_within, first_size}
use Rattle.fle_stream.specs.declared.why.Number.{Number}
use Rattle.fle_stream.specs.declared.why.Finish.TheVariants as finishes
use Rattle.fle_stream.specs.declared.why.Cut.TheVariants as cuts
use Rattle.fle_stream.specs.declared.why.Why.TheVariants as whys
use Rattle.fle_stream.specs.declared.why.Bound.TheVariants as bounds
use Rattle.fle_stream.specs.declared.pairing.Checked.TheVariants as checks
use Rattle.fle_stream.proofs.Judgings.{past, step_unanswered}

pub in_time : (taken : ℕ) → taken < 2 ^ 40 → nat_lt taken (2 ^ 40) ≡ true
in_time taken few = grind (arith, nat_tests)

pub too_late : (taken : ℕ) → 2 ^ 40 ≤ taken → nat_lt taken (2 ^ 40) ≡ false
too_late taken many = grind (arith, nat_tests)

-- the second document comes too late
pub late_answer : (w : Pairing) (number taken n : ℕ) (c : Items) (docs : Docs) → taken < 2 ^ 40 → 2 ^ 40 ≤ taken + n
    → w.opens c ≡ None
    → paired w number taken (doc n c docs) ≡ finished (finishes.Limit bounds.Stream) (number + 1) n
unfolding paired answered
late_answer w number taken n c (ends rest) few many opens =
    rw (in_time taken few, opens, too_late (taken + n) many) refl
late_answer w number taken n c (doc m r docs) few many opens =
    rw (in_time taken few, opens, too_late (taken + n) many) refl

-- there is no second document
pub answer_end : (w : Pairing) (number taken n : ℕ) (c : Items) (rest : Rest) → taken < 2 ^ 40 → taken + n < 2 ^ 40
    → w.opens c ≡ None
    → paired w number taken (doc n c (ends rest)) ≡ unanswered w.missing rest number n
unfolding paired answered
answer_end w number taken n c rest few more opens = rw (in_time taken few, opens, in_time (taken + n) more) refl

pub refuses : (a : Refused) (reason : Number) (place : List ℕ) (number used : ℕ) (o : Outcome)
    → CheckIs a (checks.Refused reason place)
    → unless_refused a number used o ≡ finished (finishes.Refused reason place) number used
refuses None reason place number used o h = absurd h
refuses (Some why) reason place number used o h =
    ap (λ (x : Number). finished (finishes.Refused x why.1) number used) h.0
    ∙ ap (λ (x : List ℕ). finished (finishes.Refused reason x) number used) h.1

-- a check that passes
pub passes : (a : Refused) → CheckIs a checks.Passes → a ≡ None
passes None h = refl
passes (Some why) h = absurd h

-- the second document is refused
pub bad_answer : (w : Pairing) (number taken n m : ℕ) (c r : Items) (docs : Docs) (reason : Number) (place : List ℕ)
    → taken < 2 ^ 40 → taken + n < 2 ^ 40 → w.opens c ≡ None → CheckIs (w.answers c r) (checks.Refused reason place)
    → paired w number taken (doc n c (doc m r docs)) ≡ finished (finishes.Refused reason place) (number + 1) (n + m)
unfolding paired answered
bad_answer w number taken n m c r docs reason place few more opens refused =
    rw (in_time taken few, opens, in_time (taken + n) more) (refuses (w.answers c r) reason place (number + 1) (n + m)
    _ refused)

-- the reason and the place as they were made
pub told_as : (a b : Number) (p q : List ℕ) (number used : ℕ) → a ≡ b → p ≡ q
    → finished (finishes.Refused a p) number used ≡ finished (finishes.Refused b q) number used
told_as a b p q number used is at = ap (λ (x : Number). finished (finishes.Refused x p) number used) is
    ∙ ap (λ (x : List ℕ). finished (finishes.Refused b x) number used) at

-- what is left behind both
pub left_behind : (n m : ℕ) (told : List ℕ) (after : Option (List ℕ)) → after ≡ Some (drop m (drop n told))
    → after ≡ Some (drop (n + m) told)
left_behind n m told after is = is ∙ ap (λ (x : List ℕ). Some x) (drop-drop m n told)

-- the bytes of both
pub spans_two : (n m : ℕ) (c r : Items) (told : List ℕ) (docs : Docs)
    → documents_within document_limit answer_limit told
    ≡ doc n c (documents_within answer_limit document_limit (drop n told))
    → documents_within answer_limit document_limit (drop n told) ≡ doc m r docs
    → pair_spans (documents_within document_limit answer_limit told) (length told) ≡ n ∷ m ∷ []
spans_two n m c r told docs first second =
    ap (λ (ds : Docs). pair_spans ds (length told)) (first ∙ ap (λ (ds : Docs). doc n c ds) second)

pub within_two : (n m : ℕ) (c r : Items) (told : List ℕ) (docs : Docs)
    → documents_within document_limit answer_limit told
    ≡ doc n c (documents_within answer_limit document_limit (drop n told))
    → documents_within answer_limit document_limit (drop n told) ≡ doc m r docs
    → n + m ≤ total (pair_spans (documents_within document_limit answer_limit told) (length told))
within_two n m c r told docs first second =
    let both = ap (λ (s : List ℕ). total s) (spans_two n m c r told docs first second) in omega (arith, both)

-- the first document's bytes, and what was handed out of the second
spans_one : (n : ℕ) (c : Items) (told : List ℕ)
    → documents_within document_limit answer_limit told
    ≡ doc n c (documents_within answer_limit document_limit (drop n told))
    → pair_spans (documents_within document_limit answer_limit told) (length told)
    ≡ n ∷ first_size (documents_within answer_limit document_limit (drop n told)) (length (drop n told)) ∷ []
spans_one n c told first = ap (λ (ds : Docs). pair_spans ds (length told)) first
    ∙ ap (λ (k : ℕ). n ∷ first_size (documents_within answer_limit document_limit (drop n told)) k ∷ [])
    (sym (length-drop n told))

handed_behind : (n most : ℕ) (told : List ℕ) (after : Option (List ℕ)) → Handed (drop n told) after most
    → HandedPast n most told after
handed_behind n most told after h = (h.0, h.1, left_behind n h.0 told after h.2)

pub handed_both : (n : ℕ) (c : Items) (told : List ℕ) (after : Option (List ℕ))
    → documents_within document_limit answer_limit told
    ≡ doc n c (documents_within answer_limit document_limit (drop n told))
    → Handed (drop n told) after
    (first_size (documents_within answer_limit document_limit (drop n told)) (length (drop n told)))
    → HandedPast 0 (total (pair_spans (documents_within document_limit answer_limit told) (length told))) told after
handed_both n c told after first h =
    let all = ap (λ (s : List ℕ). total s) (spans_one n c told first) in
    past (n + h.0) _ told after (omega (arith, all, h.1)) (left_behind n h.0 told after h.2)

pub cut_behind : (o : Outcome) (n : ℕ) (c : Items) (told : List ℕ) (after : Option (List ℕ))
    (entropy entropy_after : EntropySeen) (out : SinkSeen) (number : ℕ)
    → documents_within document_limit answer_limit told
    ≡ doc n c (documents_within answer_limit document_limit (drop n told))
    → Handed (drop n told) after
    (first_size (documents_within answer_limit document_limit (drop n told)) (length (drop n told)))
    → Draws entropy entropy_after []
    → LastStep o number told after (pair_spans (documents_within document_limit answer_limit told) (length told))
    entropy entropy_after out out (number + 1) (whys.Cut cuts.Input)
cut_behind o n c told after entropy entropy_after out number first h draws =
    subst (λ (s : List ℕ). LastStep o number told after s entropy entropy_after out out (number + 1)
    (whys.Cut cuts.Input))
    (sym (spans_one n c told first))
    (step_unanswered o told after n
    (first_size (documents_within answer_limit document_limit (drop n told)) (length (drop n told))) []
    entropy entropy_after out number (handed_behind n _ told after h) draws)
