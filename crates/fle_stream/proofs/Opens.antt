-- The first half of a turn over pairs, exit by exit; and what both halves took.
use Rattle.std.proofs.Common.{◌≡◌, ℕ, ◌+◌, ◌*◌, ◌-◌, ◌^◌, ◌<◌, ◌≤◌, min, List, [], ◌∷◌, length, Option}
use Rattle.std.proofs.Common.{refl, ap, arith}
use Rattle.bson_tree.specs.Tree.{Items}
use Rattle.fle_outside.specs.Filling.{RoseBy, RoseWithin}
use Rattle.fle_outside.specs.Seen.{Draws, EntropySeen, SinkSeen}
use Rattle.fle_stream.specs.Check.{CheckIs}
use Rattle.fle_stream.specs.Next.{Handed}
use Rattle.fle_stream.specs.Outcome.{Outcome, finished, judged, rest_finish}
use Rattle.fle_stream.specs.Pairs.{Pairing, answered, pair_spans, paired}
use Rattle.fle_stream.specs.Plan.{Verdict, draws_in, draws_of, size_in, size_of}
use Rattle.fle_stream.specs.Run.{HandedPast, LastStep, total}
use Rattle.fle_stream.specs.Streams.{Docs, doc, ends, Rest, first_size, rest_size}
use Rattle.fle_stream.specs.Task.{two_documents}
use Rattle.fle_stream.specs.Turn.{TookBehind}
use Rattle.fle_stream.specs.declared.pairing.Checked.TheVariants as checks
use Rattle.fle_stream.specs.declared.turning.Turn.TheVariants as turns
use Rattle.fle_stream.specs.declared.why.Number.{Number}
use Rattle.fle_stream.specs.declared.why.Bound.TheVariants as bounds
use Rattle.fle_stream.specs.declared.why.Cut.TheVariants as cuts
use Rattle.fle_stream.specs.declared.why.Finish.TheVariants as finishes
use Rattle.fle_stream.specs.declared.why.Why.TheVariants as whys
use Rattle.fle_stream.proofs.Judgings.{draws_in-≤, past, size_in-≤, step_unread}
use Rattle.fle_stream.proofs.PairTurns.{in_time, refuses, too_late}

-- ---- what the first document says of the run

pub pair_late : (w : Pairing) (number taken : ℕ) (docs : Docs) → 2 ^ 40 ≤ taken
    → paired w number taken docs ≡ finished (finishes.Limit bounds.Stream) number 0
unfolding paired answered
pair_late w number taken (ends rest) many = rw (too_late taken many) refl
pair_late w number taken (doc n c docs) many = rw (too_late taken many) refl

pub pair_end : (w : Pairing) (number taken : ℕ) (rest : Rest) → taken < 2 ^ 40
    → paired w number taken (ends rest) ≡ finished (rest_finish rest) number (rest_size rest)
unfolding paired answered
pair_end w number taken rest few = rw (in_time taken few) refl

pub bad_first : (w : Pairing) (number taken n : ℕ) (c : Items) (docs : Docs) (reason : Number) (place : List ℕ)
    → taken < 2 ^ 40 → CheckIs (w.opens c) (checks.Refused reason place)
    → paired w number taken (doc n c docs) ≡ finished (finishes.Refused reason place) number n
unfolding paired answered
bad_first w number taken n c docs reason place few refused =
    rw (in_time taken few) (refuses (w.opens c) reason place number n _ refused)

-- ---- the bytes of the first document

within_first : (docs : Docs) (n : ℕ) → first_size docs n ≤ total (pair_spans docs n)
within_first (ends rest) n = omega arith
within_first (doc m c docs) n = omega arith

pub handed_first : (docs : Docs) (told : List ℕ) (after : Option (List ℕ))
    → Handed told after (first_size docs (length told))
    → HandedPast 0 (total (pair_spans docs (length told))) told after
handed_first docs told after h =
    past h.0 _ told after (omega (arith, h.1, within_first docs (length told))) h.2

pub within_one : (docs : Docs) (n : ℕ) (c : Items) (behind : Docs) (told : List ℕ) → docs ≡ doc n c behind
    → n ≤ total (pair_spans docs (length told))
within_one docs n c behind told is =
    let first = ap (λ (ds : Docs). first_size ds (length told)) is in
    omega (arith, first, within_first docs (length told))

-- the input failed at the first document
pub step_unopened : (docs : Docs) (o : Outcome) (told : List ℕ) (after : Option (List ℕ)) (most : ℕ)
    (entropy entropy_after : EntropySeen) (out : SinkSeen) (number : ℕ)
    → HandedPast 0 (first_size docs most) told after → Draws entropy entropy_after []
    → LastStep o number told after (pair_spans docs most) entropy entropy_after out out number (whys.Cut cuts.Input)
step_unopened (ends rest) o told after most entropy entropy_after out number left draws =
    step_unread o told after most [] entropy entropy_after out number left draws
step_unopened (doc m c docs) o told after most entropy entropy_after out number left draws =
    step_unread o told after m (first_size docs (most - m) ∷ []) entropy entropy_after out number left draws

-- ---- what was taken

-- the bytes of a document are at most as many as one may have
pub took_whole : (limit before after n : ℕ) → RoseBy before after (n - 0) → n ≤ limit → RoseWithin before after limit
took_whole limit before after n took within = (omega (arith, took.0), omega (arith, took.1, within))

-- a turn that ended at its first document took at most that one
pub took_first : (number before after : ℕ) → RoseWithin before after (2 ^ 24)
    → (number ≤ number) × (min (before + 5 * (number - number)) (2 ^ 64 - 1) ≤ after)
    × (after ≤ before + 48000000 * 2)
took_first number before after took = (omega arith, omega (arith, took.0), omega (arith, took.1))

-- behind a first document, of whatever size, a turn that ended, for whatever cause, took at most the second, at which
-- it ended
pub took_second : (number before after : ℕ) → RoseWithin before after 48000000
    → TookBehind two_documents 0 number before after (turns.Ended (number + 1) (whys.Cut cuts.Input))
took_second number before after took = (omega arith, omega arith, took.0, omega (arith, took.1))

-- or at the first one
pub took_again : (number before after : ℕ) → RoseWithin before after 48000000
    → TookBehind two_documents 0 number before after (turns.Ended number (whys.Cut cuts.Memory))
took_again number before after took = (omega arith, omega arith, took.0, omega (arith, took.1))

pub took_none : (n : ℕ) → RoseWithin n n 48000000
took_none n = (omega arith, omega arith)

-- ---- what is assured

-- what is enough for all outputs is for its own
pub among_bytes : (v : Verdict) (number d n : ℕ) (o behind : Outcome) (m : ℕ) → o ≡ judged v number d n behind
    → size_of o.outputs ≤ m → size_in v ≤ m
among_bytes v number d n o behind m is enough =
    omega (arith, ap (λ (x : Outcome). size_of x.outputs) is, enough, size_in-≤ v number d n behind)

pub among_blocks : (v : Verdict) (number d n : ℕ) (o behind : Outcome) (m : ℕ) → o ≡ judged v number d n behind
    → draws_of o.outputs ≤ m → draws_in v ≤ m
among_blocks v number d n o behind m is enough =
    omega (arith, ap (λ (x : Outcome). draws_of x.outputs) is, enough, draws_in-≤ v number d n behind)
