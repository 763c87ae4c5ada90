-- The first document of a turn, whatever the verb: what the run comes to where none is read, and what was taken.
use Rattle.std.proofs.Common.{◌≡◌, ℕ, ◌+◌, ◌-◌, ◌^◌, ◌<◌, ◌≤◌, ◌∙◌, true, Option, List, [], length, ap, arith, sym}
use Rattle.std.proofs.lemmas.Bool.{false≢true}
use Rattle.bson_tree.specs.Tree.{Items}
use Rattle.fle_outside.proofs.Drawings.{draws_none}
use Rattle.fle_outside.specs.Filling.{RoseBy, RoseWithin}
use Rattle.fle_outside.specs.Seen.{EntropySeen, SinkSeen, SourceSeen}
use Rattle.fle_stream.specs.Next.{Handed, IsOfNext, NextIs}
use Rattle.fle_stream.specs.Outcome.{finished, outcome, rest_finish}
use Rattle.fle_stream.specs.Pairs.{answer_limit, paired}
use Rattle.fle_stream.specs.Plan.{Verdict}
use Rattle.fle_stream.specs.Run.{HandedPast, LastStep, total}
use Rattle.fle_stream.specs.Streams.{Docs, Rest, document_limit, documents, documents_within, ends, first_size}
use Rattle.fle_stream.specs.Streams.{rest_size}
use Rattle.fle_stream.specs.Task.{Task, fails, makes, each, pairs, course_of, other_limit, pace_of, reads_input}
use Rattle.fle_stream.specs.Task.{spans_of}
use Rattle.fle_stream.specs.Turn.{TookBehind, TurnTook}
use Rattle.fle_stream.specs.Turned.{HasRead}
use Rattle.fle_stream.specs.declared.next.Next.TheVariants as nexts
use Rattle.fle_stream.specs.declared.turning.Turn.{Turn}
use Rattle.fle_stream.specs.declared.turning.Turn.TheVariants as turns
use Rattle.fle_stream.specs.declared.why.Bound.TheVariants as bounds
use Rattle.fle_stream.specs.declared.why.Cut.TheVariants as cuts
use Rattle.fle_stream.specs.declared.why.Finish.{Finish}
use Rattle.fle_stream.specs.declared.why.Finish.TheVariants as finishes
use Rattle.fle_stream.specs.declared.why.Why.{Why}
use Rattle.fle_stream.specs.declared.why.Why.TheVariants as whys
use Rattle.fle_stream.proofs.Bodies.{DocRead}
use Rattle.fle_stream.proofs.Exits.{Fronts}
use Rattle.fle_stream.proofs.Judgings.{memory_none, outcome_end, outcome_late, past, step_finished, step_memory}
use Rattle.fle_stream.proofs.Judgings.{step_unread}
use Rattle.fle_stream.proofs.Opens.{handed_first, pair_end, pair_late, step_unopened, took_first}
use Rattle.fle_stream.proofs.Turned.{took_turn}
use Rattle.fle_stream.proofs.Writings.{here}

-- ---- what the run comes to

-- too many bytes were taken
pub course_late : (t : Task) (number taken : ℕ) (told : List ℕ) → reads_input t ≡ true → 2 ^ 40 ≤ taken
    → course_of t number taken told ≡ finished (finishes.Limit bounds.Stream) number 0
course_late (fails finish) number taken told reads many = absurd (false≢true reads)
course_late (makes plan) number taken told reads many = absurd (false≢true reads)
course_late (each v) number taken told reads many = outcome_late v number taken (documents told) many
course_late (pairs w) number taken told reads many =
    pair_late w number taken (documents_within document_limit answer_limit told) many

-- no document stands there
pub course_ends : (t : Task) (number taken : ℕ) (told : List ℕ) (rest : Rest) → reads_input t ≡ true → taken < 2 ^ 40
    → documents_within document_limit (other_limit t) told ≡ ends rest
    → course_of t number taken told ≡ finished (rest_finish rest) number (rest_size rest)
course_ends (fails finish) number taken told rest reads few stands = absurd (false≢true reads)
course_ends (makes plan) number taken told rest reads few stands = absurd (false≢true reads)
course_ends (each v) number taken told rest reads few stands =
    ap (λ (docs : Docs). outcome v number taken docs) stands ∙ outcome_end v number taken rest few
course_ends (pairs w) number taken told rest reads few stands =
    ap (λ (docs : Docs). paired w number taken docs) stands ∙ pair_end w number taken rest few

-- at most the first document was handed out
handed_spans : (t : Task) (told : List ℕ) (after : Option (List ℕ)) → reads_input t ≡ true
    → Handed told after (first_size (documents_within document_limit (other_limit t) told) (length told))
    → HandedPast 0 (total (spans_of t told)) told after
handed_spans (fails finish) told after reads h = absurd (false≢true reads)
handed_spans (makes plan) told after reads h = absurd (false≢true reads)
handed_spans (each v) told after reads h = past h.0 _ told after (omega (arith, h.1)) h.2
handed_spans (pairs w) told after reads h =
    handed_first (documents_within document_limit answer_limit told) told after h

-- the input failed at the first document
front_failed : (t : Task) (number taken : ℕ) (told : List ℕ) (after : Option (List ℕ)) (entropy : EntropySeen)
    (out : SinkSeen) → reads_input t ≡ true
    → Handed told after (first_size (documents_within document_limit (other_limit t) told) (length told))
    → LastStep (course_of t number taken told) number told after (spans_of t told) entropy entropy out out number
    (whys.Cut cuts.Input)
front_failed (fails finish) number taken told after entropy out reads h = absurd (false≢true reads)
front_failed (makes plan) number taken told after entropy out reads h = absurd (false≢true reads)
front_failed (each v) number taken told after entropy out reads h =
    step_unread (outcome v number taken (documents told)) told after (first_size (documents told) (length told)) []
    entropy entropy out number (past h.0 _ told after h.1 h.2) (draws_none entropy)
front_failed (pairs w) number taken told after entropy out reads h =
    let docs = documents_within document_limit answer_limit told in
    step_unopened docs (paired w number taken docs) told after (length told) entropy entropy out number
    (past h.0 _ told after h.1 h.2) (draws_none entropy)

-- no first document was read
pub front_stops : (t : Task) (number taken : ℕ) (told : List ℕ) (after : Option (List ℕ)) (entropy : EntropySeen)
    (out : SinkSeen) (why : Why) → reads_input t ≡ true → taken < 2 ^ 40 → IsOfNext why
    → NextIs document_limit (other_limit t) told after (nexts.Stops why)
    → LastStep (course_of t number taken told) number told after (spans_of t told) entropy entropy out out number why
front_stops t number taken told after entropy out (whys.Finished finish) reads few kind next =
    step_finished (course_of t number taken told) number told after (spans_of t told) entropy entropy out finish number
    (rest_size next.0)
    (course_ends t number taken told next.0 reads few next.1
    ∙ ap (λ (f : Finish). finished f number (rest_size next.0)) (sym next.2))
    next.3 (draws_none entropy)
front_stops t number taken told after entropy out (whys.Cut cuts.Input) reads few kind next =
    front_failed t number taken told after entropy out reads next
front_stops t number taken told after entropy out (whys.Cut cuts.Memory) reads few kind next =
    step_memory (course_of t number taken told) number told after (spans_of t told) entropy entropy out number []
    (memory_none (course_of t number taken told).outputs) (handed_spans t told after reads next) (draws_none entropy)
front_stops t number taken told after entropy out (whys.Cut cuts.Folder) reads few kind next = absurd kind
front_stops t number taken told after entropy out (whys.Cut cuts.Output) reads few kind next = absurd kind
front_stops t number taken told after entropy out (whys.Cut cuts.Entropy) reads few kind next = absurd kind

-- it was read
pub front_read : (t : Task) (n : ℕ) (c : Items) (input : SourceSeen) (told : List ℕ)
    → DocRead document_limit (other_limit t) told input.told n c → HasRead t n c input told
front_read t n c input told read = record { left = read.left; stands = read.stands }

-- and it is judged by itself
pub front_alone : (v : Items → Verdict) (number taken n : ℕ) (c : Items) (input : SourceSeen) (told : List ℕ)
    → taken < 2 ^ 40 → HasRead (each v) n c input told → Fronts (each v) number taken 1 n (v c) told input.told
front_alone v number taken n c input told few read =
    let h = here v number taken n told input.told c few (record { stands = read.stands; left = read.left }) in
    record { comes = h.comes; within = h.within; left = h.left }

-- ---- what was taken

-- a turn that ended at its first document, for whatever cause, took at most that one
pub took_front : (t : Task) (number before after : ℕ) → reads_input t ≡ true → RoseWithin before after (2 ^ 24)
    → TurnTook (pace_of t) number before after (turns.Ended number (whys.Cut cuts.Memory))
took_front (fails finish) number before after reads took = absurd (false≢true reads)
took_front (makes plan) number before after reads took = absurd (false≢true reads)
took_front (each v) number before after reads took = took_turn number before after 1 document_limit took
took_front (pairs w) number before after reads took = took_first number before after took

-- the bytes of the document that was read
pub rose_size : (before after n m : ℕ) → n ≡ m → RoseBy before after (m - 0) → RoseBy before after n
rose_size before after n m same rose = (omega (arith, same, rose.0), omega (arith, same, rose.1))

-- one that went on took what was taken behind it, too
pub took_all : (t : Task) (number before mid after size : ℕ) (turn : Turn) → reads_input t ≡ true → 5 ≤ size
    → size ≤ 2 ^ 24 → RoseBy before mid size → TookBehind (pace_of t) size number mid after turn
    → TurnTook (pace_of t) number before after turn
took_all t number before mid after size (turns.Wrote n d) reads least most rose took =
    (omega (arith, rose.0, took.0, took.1.0), omega (arith, rose.1, took.0, took.1.1))
took_all (fails finish) number before mid after size (turns.Ended at why) reads least most rose took =
    absurd (false≢true reads)
took_all (makes plan) number before mid after size (turns.Ended at why) reads least most rose took =
    absurd (false≢true reads)
took_all (each v) number before mid after size (turns.Ended at why) reads least most rose took = (
  took.0,
  omega (arith, least, rose.0, took.0, took.1, took.2),
  omega (arith, most, rose.1, took.3),
)
took_all (pairs w) number before mid after size (turns.Ended at why) reads least most rose took = (
  took.0,
  omega (arith, least, rose.0, took.0, took.1, took.2),
  omega (arith, most, rose.1, took.3),
)
