-- What a run over pairs of documents comes to: each first document is judged by itself, then with the one behind it.
use Rattle.std.specs.Prelude.{◌≡◌, ℕ, ◌+◌, ◌^◌, List, [], Option, Some, None, nat_lt, ◌-◌, ◌∷◌, if◌then◌else◌}
use Rattle.bson_tree.specs.Tree.{Items}
use Rattle.fle_outside.specs.Limits.{output_limit}
use Rattle.fle_stream.specs.Outcome.{Outcome, finished, judged, rest_finish}
use Rattle.fle_stream.specs.Plan.{Output, Verdict}
use Rattle.fle_stream.specs.Streams.{Docs, doc, ends, Rest, nothing, rest_size, first_size}
use Rattle.fle_stream.specs.declared.why.Number.{Number}
use Rattle.fle_stream.specs.declared.why.Finish.TheVariants as finishes
use Rattle.fle_stream.specs.declared.why.Bound.TheVariants as bounds

-- a document isn't refused; or it is, for a reason, at a place
abbrev pub Refused : Type 0
Refused = Option (Number × List ℕ)

-- how pairs are judged: the first document by itself; then the second, which answers it; then what the first comes to;
-- and the reason where there is no second
pub record Pairing : Type 0 where
  pub opens : Items → Refused
  pub answers : Items → Items → Refused
  pub comes : Items → Verdict
  pub missing : Number

-- the run ends by this refusal of the document of this number, after so many bytes; or goes on
abbrev pub unless_refused : Refused → ℕ → ℕ → Outcome → Outcome
unless_refused (Some why) number used o = finished (finishes.Refused why.0 why.1) number used
unless_refused None number used o = o

-- a document is begun only where fewer than 2^40 bytes were taken
abbrev pub within_limit : ℕ → ℕ → ℕ → Outcome → Outcome
within_limit taken number used o =
    if nat_lt taken (2 ^ 40) then o else finished (finishes.Limit bounds.Stream) number used

-- the end that the rest of a stream makes behind a first document of this number and of n bytes: where nothing is left
-- the first document has no answer, which is told of it; any other rest is that of the second
abbrev pub unanswered : Number → Rest → ℕ → ℕ → Outcome
unanswered missing nothing number n = finished (finishes.Refused missing []) number n
unanswered missing rest number n = finished (rest_finish rest) (number + 1) (n + rest_size rest)

-- pairs are judged one by one
unfoldable mutual
  pub paired : Pairing → ℕ → ℕ → Docs → Outcome
  paired w number taken (ends rest) = within_limit taken number 0 (finished (rest_finish rest) number (rest_size rest))
  paired w number taken (doc n c docs) =
      within_limit taken number 0 (unless_refused (w.opens c) number n (answered w number taken n c docs))

  -- the documents behind a first one of n bytes that isn't refused by itself
  pub answered : Pairing → ℕ → ℕ → ℕ → Items → Docs → Outcome
  answered w number taken n c (ends rest) =
      within_limit (taken + n) (number + 1) n (unanswered w.missing rest number n)
  answered w number taken n c (doc m r docs) =
      within_limit (taken + n) (number + 1) n
      (unless_refused (w.answers c r) (number + 1) (n + m)
      (judged (w.comes c) number 2 (n + m) (paired w (number + 2) (taken + (n + m)) docs)))

-- the most bytes that the second document of a pair may have
abbrev pub answer_limit : ℕ
answer_limit = output_limit

-- the bytes of the documents of a pair, of so many bytes that are left: each as many as it has, or all that is left
abbrev pub pair_spans : Docs → ℕ → List ℕ
pair_spans (ends rest) n = n ∷ []
pair_spans (doc m c docs) n = m ∷ first_size docs (n - m) ∷ []

-- a pairing of these parts
abbrev pub pairing : (Items → Refused) → (Items → Items → Refused) → (Items → Verdict) → Number → Pairing
pairing opens answers comes missing = record { opens = opens; answers = answers; comes = comes; missing = missing }

-- the bytes of documents
abbrev pub docs_size : Docs → ℕ
docs_size (ends rest) = 0
docs_size (doc n is docs) = n + docs_size docs

-- pairs whose answers are right, and their first documents alone
abbrev pub AnswersFor : Pairing → Docs → Docs → Type 0
AnswersFor w (ends rest) (ends other) = (rest ≡ nothing) × (other ≡ nothing)
AnswersFor w (ends rest) (doc k d es) = ⊥
AnswersFor w (doc n c (ends rest)) es = ⊥
AnswersFor w (doc n c (doc m r docs)) (ends other) = ⊥
AnswersFor w (doc n c (doc m r docs)) (doc k d es) =
    (n ≡ k) × (c ≡ d) × (w.opens c ≡ None) × (w.answers c r ≡ None) × AnswersFor w docs es

-- outputs with equal plans, one by one
abbrev pub HaveOnePlan : List Output → List Output → Type 0
HaveOnePlan [] [] = Unit {0}
HaveOnePlan [] (p ∷ ps) = ⊥
HaveOnePlan (o ∷ os) [] = ⊥
HaveOnePlan (o ∷ os) (p ∷ ps) = (o.plan ≡ p.plan) × HaveOnePlan os ps
