-- Runs over pairs of documents, pair by pair.
use Rattle.std.proofs.Common.{◌≡◌, ◌∙◌, ℕ, ◌+◌, ◌^◌, ◌<◌, true, List, [], drop, nat_lt, None, refl, sym}
use Rattle.std.proofs.Common.{ap, subst, arith}
use Rattle.std.proofs.lemmas.Bool.Decides.{nat_tests}
use Rattle.std.proofs.lemmas.List.{drop-drop}
use Rattle.bson_tree.specs.Tree.{Items}
use Rattle.fle_stream.specs.Outcome.{Outcome, finished, judged, outcome}
use Rattle.fle_stream.specs.Pairs.{AnswersFor, HaveOnePlan, Pairing, answer_limit, answered, docs_size, paired}
use Rattle.fle_stream.specs.Plan.{Verdict, writes, refused, too_long}
use Rattle.fle_stream.specs.Streams.{Docs, doc, ends, nothing, document_limit, documents_within}
use Rattle.fle_stream.specs.declared.why.Finish.TheVariants as finishes

in_time : (taken : ℕ) → taken < 2 ^ 40 → nat_lt taken (2 ^ 40) ≡ true
in_time taken few = grind (arith, nat_tests)

-- a pair that isn't refused
pub a_pair : (w : Pairing) (number taken n m : ℕ) (c r : Items) (docs : Docs) → taken < 2 ^ 40 → taken + n < 2 ^ 40
    → w.opens c ≡ None → w.answers c r ≡ None
    → paired w number taken (doc n c (doc m r docs))
    ≡ judged (w.comes c) number 2 (n + m) (paired w (number + 2) (taken + (n + m)) docs)
unfolding paired answered
a_pair w number taken n m c r docs few more opens answers =
    rw (in_time taken few, in_time (taken + n) more, opens, answers) refl

pub next_pair : (w : Pairing) (number taken n m : ℕ) (c r : Items) (told : List ℕ)
    → taken < 2 ^ 40 → taken + n < 2 ^ 40
    → documents_within document_limit answer_limit told
    ≡ doc n c (documents_within answer_limit document_limit (drop n told))
    → documents_within answer_limit document_limit (drop n told)
    ≡ doc m r (documents_within document_limit answer_limit (drop m (drop n told)))
    → w.opens c ≡ None → w.answers c r ≡ None
    → paired w number taken (documents_within document_limit answer_limit told)
    ≡ judged (w.comes c) number 2 (n + m)
    (paired w (number + 2) (taken + (n + m)) (documents_within document_limit answer_limit (drop (n + m) told)))
next_pair w number taken n m c r told few more first second opens answers =
    let behind : drop m (drop n told) ≡ drop (n + m) told = drop-drop m n told in
    ap (λ (ds : Docs). paired w number taken ds) (first ∙ ap (λ (ds : Docs). doc n c ds) second)
    ∙ a_pair w number taken n m c r (documents_within document_limit answer_limit (drop m (drop n told))) few more
    opens answers
    ∙ ap (λ (bytes : List ℕ). judged (w.comes c) number 2 (n + m)
    (paired w (number + 2) (taken + (n + m)) (documents_within document_limit answer_limit bytes))) behind

pub no_answer : (w : Pairing) (number taken n : ℕ) (c : Items) (told : List ℕ)
    → taken < 2 ^ 40 → taken + n < 2 ^ 40
    → documents_within document_limit answer_limit told
    ≡ doc n c (documents_within answer_limit document_limit (drop n told))
    → documents_within answer_limit document_limit (drop n told) ≡ ends nothing → w.opens c ≡ None
    → paired w number taken (documents_within document_limit answer_limit told)
    ≡ finished (finishes.Refused w.missing []) number n
unfolding paired answered
no_answer w number taken n c told few more first second opens =
    ap (λ (ds : Docs). paired w number taken ds) (first ∙ ap (λ (ds : Docs). doc n c ds) second)
    ∙ rw (in_time taken few, in_time (taken + n) more, opens) refl

-- ---- right answers change nothing

-- a first document alone
alone : (v : Items → Verdict) (number taken n : ℕ) (is : Items) (docs : Docs) → taken < 2 ^ 40
    → outcome v number taken (doc n is docs) ≡ judged (v is) number 1 n (outcome v (number + 1) (taken + n) docs)
unfolding outcome
alone v number taken n is docs few = rw (in_time taken few) refl

plans_by : (v : Verdict) (number d n other e k : ℕ) (o p : Outcome) → HaveOnePlan o.outputs p.outputs
    → HaveOnePlan (judged v number d n o).outputs (judged v other e k p).outputs
plans_by (writes plan) number d n other e k o p h = (refl, h)
plans_by (refused reason place) number d n other e k o p h = tt
plans_by too_long number d n other e k o p h = tt

finish_by : (v : Verdict) (number d n other e k : ℕ) (o p : Outcome) → o.finish ≡ p.finish
    → (judged v number d n o).finish ≡ (judged v other e k p).finish
finish_by (writes plan) number d n other e k o p h = h
finish_by (refused reason place) number d n other e k o p h = refl
finish_by too_long number d n other e k o p h = refl

pub one_plan : (w : Pairing) (docs es : Docs) (number taken other before : ℕ)
    → AnswersFor w docs es → taken + docs_size docs < 2 ^ 40 → before + docs_size es < 2 ^ 40
    → HaveOnePlan (paired w number taken docs).outputs (outcome w.comes other before es).outputs
unfolding paired answered outcome
one_plan w (ends rest) (ends last) number taken other before h few less =
    rw (in_time taken (omega (arith, few)), in_time before (omega (arith, less))) tt
one_plan w (ends rest) (doc k d es) number taken other before h few less = absurd h
one_plan w (doc n c (ends rest)) es number taken other before h few less = absurd h
one_plan w (doc n c (doc m r docs)) (ends last) number taken other before h few less = absurd h
one_plan w (doc n c (doc m r docs)) (doc k d es) number taken other before h few less =
    let first = a_pair w number taken n m c r docs (omega (arith, few)) (omega (arith, few)) h.2 h.3 in
    let second = alone w.comes other before k d es (omega (arith, less)) in
    let rest = one_plan w docs es (number + 2) (taken + (n + m)) (other + 1) (before + k) h.4
    (omega (arith, few)) (omega (arith, less)) in
    subst (λ (o : Outcome). HaveOnePlan o.outputs (outcome w.comes other before (doc k d es)).outputs) (sym first)
    (subst (λ (p : Outcome). HaveOnePlan (judged (w.comes c) number 2 (n + m)
    (paired w (number + 2) (taken + (n + m)) docs)).outputs p.outputs) (sym second)
    (subst (λ (x : Items). HaveOnePlan (judged (w.comes c) number 2 (n + m)
    (paired w (number + 2) (taken + (n + m)) docs)).outputs
    (judged (w.comes x) other 1 k (outcome w.comes (other + 1) (before + k) es)).outputs) h.1
    (plans_by (w.comes c) number 2 (n + m) other 1 k (paired w (number + 2) (taken + (n + m)) docs)
    (outcome w.comes (other + 1) (before + k) es) rest)))

pub one_finish : (w : Pairing) (docs es : Docs) (number taken other before : ℕ)
    → AnswersFor w docs es → taken + docs_size docs < 2 ^ 40 → before + docs_size es < 2 ^ 40
    → (paired w number taken docs).finish ≡ (outcome w.comes other before es).finish
unfolding paired answered outcome
one_finish w (ends rest) (ends last) number taken other before h few less =
    rw (in_time taken (omega (arith, few)), in_time before (omega (arith, less)), h.0, h.1) refl
one_finish w (ends rest) (doc k d es) number taken other before h few less = absurd h
one_finish w (doc n c (ends rest)) es number taken other before h few less = absurd h
one_finish w (doc n c (doc m r docs)) (ends last) number taken other before h few less = absurd h
one_finish w (doc n c (doc m r docs)) (doc k d es) number taken other before h few less =
    let first = a_pair w number taken n m c r docs (omega (arith, few)) (omega (arith, few)) h.2 h.3 in
    let second = alone w.comes other before k d es (omega (arith, less)) in
    let rest = one_finish w docs es (number + 2) (taken + (n + m)) (other + 1) (before + k) h.4
    (omega (arith, few)) (omega (arith, less)) in
    ap (λ (o : Outcome). o.finish) first
    ∙ finish_by (w.comes c) number 2 (n + m) other 1 k (paired w (number + 2) (taken + (n + m)) docs)
    (outcome w.comes (other + 1) (before + k) es) rest
    ∙ ap (λ (x : Items). (judged (w.comes x) other 1 k (outcome w.comes (other + 1) (before + k) es)).finish) h.1
    ∙ sym (ap (λ (o : Outcome). o.finish) second)
