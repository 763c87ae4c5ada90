-- The second half of a turn over pairs: what the run comes to where a second document is read, or none.
use Rattle.std.proofs.Common.{◌≡◌, ◌∙◌, ℕ, ◌+◌, ◌^◌, ◌<◌, Option, None, List, [], drop, length, ap, subst, sym}
use Rattle.bson_tree.specs.Tree.{Items}
use Rattle.fle_outside.proofs.Drawings.{draws_none}
use Rattle.fle_outside.specs.Seen.{EntropySeen, SinkSeen, SourceSeen}
use Rattle.fle_stream.specs.Check.{CheckIs}
use Rattle.fle_stream.specs.Next.{IsOfNext, NextIs}
use Rattle.fle_stream.specs.Outcome.{finished, rest_finish}
use Rattle.fle_stream.specs.Pairs.{Pairing, answer_limit, pair_spans, paired, unanswered}
use Rattle.fle_stream.specs.Run.{LastStep}
use Rattle.fle_stream.specs.Streams.{Docs, Rest, doc, document_limit, documents_within, ends, nothing, over, faulty}
use Rattle.fle_stream.specs.Streams.{rest_size}
use Rattle.fle_stream.specs.Task.{course_of, pairs}
use Rattle.fle_stream.specs.Turned.{HasRead}
use Rattle.fle_stream.specs.declared.next.Next.TheVariants as nexts
use Rattle.fle_stream.specs.declared.pairing.Checked.TheVariants as checks
use Rattle.fle_stream.specs.declared.why.Cut.TheVariants as cuts
use Rattle.fle_stream.specs.declared.why.Finish.{Finish}
use Rattle.fle_stream.specs.declared.why.Finish.TheVariants as finishes
use Rattle.fle_stream.specs.declared.why.Number.{Number}
use Rattle.fle_stream.specs.declared.why.Why.{Why}
use Rattle.fle_stream.specs.declared.why.Why.TheVariants as whys
use Rattle.fle_stream.proofs.Bodies.{DocRead}
use Rattle.fle_stream.proofs.Exits.{Comes, Fronts}
use Rattle.fle_stream.proofs.Judgings.{memory_none, step_finished, step_memory}
use Rattle.fle_stream.proofs.Paired.{next_pair}
use Rattle.fle_stream.proofs.PairTurns.{answer_end, bad_answer, cut_behind, handed_both, left_behind, within_two}

-- a first document of n bytes that isn't refused by itself, begun in time, and what stands behind it begun in time, too
pub record Opened (w : Pairing) (taken n : ℕ) (c : Items) : Type 0 where
  pub begun : taken < 2 ^ 40
  pub behind : taken + n < 2 ^ 40
  pub opens : w.opens c ≡ None

-- an end that isn't for want of a second document is that of the second
by_rest : (missing : Number) (rest : Rest) (finish : Finish) (number n : ℕ) → IsOfNext (whys.Finished finish)
    → finish ≡ rest_finish rest
    → unanswered missing rest number n ≡ finished finish (number + 1) (n + rest_size rest)
by_rest missing nothing finish number n kind is =
    absurd (subst (λ (f : Finish). IsOfNext (whys.Finished f)) is kind)
by_rest missing over finish number n kind is = ap (λ (f : Finish). finished f (number + 1) (n + 4)) (sym is)
by_rest missing (faulty k fault) finish number n kind is =
    ap (λ (f : Finish). finished f (number + 1) (n + k)) (sym is)

module _ (w : Pairing) (number taken n : ℕ) (c : Items) (o : Opened w taken n c) {mid : SourceSeen} where
  -- the run by what stands behind the first document
  by_second : (told : List ℕ) (docs : Docs) → HasRead (pairs w) n c mid told
      → documents_within answer_limit document_limit (drop n told) ≡ docs
      → course_of (pairs w) number taken told ≡ paired w number taken (doc n c docs)
  by_second told docs read second =
      ap (λ (ds : Docs). paired w number taken ds) (read.stands ∙ ap (λ (ds : Docs). doc n c ds) second)

  -- no second document begins there: the run ends by what does
  pub pair_ends : (told : List ℕ) (rest : Rest) → HasRead (pairs w) n c mid told
      → documents_within answer_limit document_limit (drop n told) ≡ ends rest
      → course_of (pairs w) number taken told ≡ unanswered w.missing rest number n
  pair_ends told rest read second =
      by_second told (ends rest) read second ∙ answer_end w number taken n c rest o.begun o.behind o.opens

  -- the second document is refused
  pub pair_refused : (m : ℕ) (r : Items) (told : List ℕ) (after : Option (List ℕ)) (reason : Number) (place : List ℕ)
      → HasRead (pairs w) n c mid told → DocRead answer_limit document_limit (drop n told) after m r
      → CheckIs (w.answers c r) (checks.Refused reason place)
      → Comes (pairs w) number taken told after (finishes.Refused reason place) (number + 1)
  pair_refused m r told after reason place read second wrong = record {
    used = n + m;
    is = by_second told (doc m r (documents_within document_limit answer_limit (drop m (drop n told)))) read
        second.stands
        ∙ bad_answer w number taken n m c r (documents_within document_limit answer_limit (drop m (drop n told))) reason
        place o.begun o.behind o.opens wrong;
    left = left_behind n m told after second.left;
  }

  -- both documents were read, and the second isn't refused
  pub front_pair : (m : ℕ) (r : Items) (told : List ℕ) (after : Option (List ℕ)) → HasRead (pairs w) n c mid told
      → DocRead answer_limit document_limit (drop n told) after m r → w.answers c r ≡ None
      → Fronts (pairs w) number taken 2 (n + m) (w.comes c) told after
  front_pair m r told after read second right = record {
    comes = next_pair w number taken n m c r told o.begun o.behind read.stands second.stands o.opens right;
    within = within_two n m c r told _ read.stands second.stands;
    left = left_behind n m told after second.left;
  }

  -- no second document was read
  pub pair_stops : (told : List ℕ) (after : Option (List ℕ)) (entropy : EntropySeen) (out : SinkSeen) (why : Why)
      → IsOfNext why → HasRead (pairs w) n c mid told
      → NextIs answer_limit document_limit (drop n told) after (nexts.Stops why)
      → LastStep (course_of (pairs w) number taken told) number told after
      (pair_spans (documents_within document_limit answer_limit told) (length told)) entropy entropy out out
      (number + 1) why
  pair_stops told after entropy out (whys.Finished finish) kind read next =
      step_finished (course_of (pairs w) number taken told) number told after _ entropy entropy out finish (number + 1)
      (n + rest_size next.0)
      (pair_ends told next.0 read next.1 ∙ by_rest w.missing next.0 finish number n kind next.2)
      (left_behind n (rest_size next.0) told after next.3) (draws_none entropy)
  pair_stops told after entropy out (whys.Cut cuts.Input) kind read next =
      cut_behind (course_of (pairs w) number taken told) n c told after entropy entropy out number read.stands next
      (draws_none entropy)
  pair_stops told after entropy out (whys.Cut cuts.Memory) kind read next =
      step_memory (course_of (pairs w) number taken told) number told after _ entropy entropy out (number + 1) []
      (memory_none (course_of (pairs w) number taken told).outputs) (handed_both n c told after read.stands next)
      (draws_none entropy)
  pair_stops told after entropy out (whys.Cut cuts.Folder) kind read next = absurd kind
  pair_stops told after entropy out (whys.Cut cuts.Output) kind read next = absurd kind
  pair_stops told after entropy out (whys.Cut cuts.Entropy) kind read next = absurd kind
