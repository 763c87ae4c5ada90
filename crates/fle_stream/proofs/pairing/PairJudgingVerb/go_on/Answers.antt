-- The first document is refused by itself, or its answer says what the turn does.
use Rattle.std.proofs.Common.{◌≡◌, ◌∙◌, ap, arith, refl}
use Rattle.bson_tree.specs.Tree.{Items}
use Rattle.fle_stream.specs.Pairs.{Pairing, answer_limit, paired}
use Rattle.fle_stream.specs.Streams.{Docs, document_limit, documents_within}
use Rattle.fle_stream.specs.Task.{pairs}
use Rattle.fle_stream.specs.declared.why.Finish.TheVariants as finishes
use Rattle.fle_stream.proofs.Exits.{did_finish, did_memory}
use Rattle.fle_stream.proofs.Judgings.{past}
use Rattle.fle_stream.proofs.Opens.{bad_first, took_again, took_none, within_one}
use Rattle.fle_stream.proofs.Turned.{finished_no, memory_not_entropy, none_more}
use Rattle.fle_stream.proofs.pairing.PairJudgingVerb.go_on.Goals as goal

pub returns-in-Passes : goal.returns-in-Passes
returns-in-Passes g c =
    let ends = c.judge_pair.ensures in
    record {
      ready = ends.ready;
      same = ap (λ (w : Pairing). pairs w) ends.same;
      progress = ends.progress;
      kind = ends.kind;
      took = ends.took;
      did = ends.did;
      undrawn = ends.undrawn;
    }

pub returns-in-Refused : goal.returns-in-Refused
returns-in-Refused g c =
    let w : Pairing = g.J.PairJudge.pairing c.args.self.now.judge in
    let first = c.args.first.now in
    rw c.refused.ensures.by (record {
      ready = c.requires.ready;
      same = refl;
      progress = tt;
      kind = tt;
      took = took_again _ _ _ (took_none _);
      did = did_finish (finishes.Refused c.in-Refused.reason c.in-Refused.place) (λ told shows. record {
        used = first.size;
        is = ap (λ (docs : Docs). paired w first.number first.taken docs) shows.stands
            ∙ bad_first w first.number first.taken first.size first.document.tree _ c.in-Refused.reason
            c.in-Refused.place c.requires.begun c.in-Refused.ensures.checked;
        left = shows.left;
      }) (none_more _) (λ a. a);
      undrawn = λ quiet. (λ at. finished_no _ _ at, quiet);
    })

pub returns-in-Memory : goal.returns-in-Memory
returns-in-Memory g c =
    let first = c.args.first.now in
    rw c.ended.ensures.by (record {
      ready = c.requires.ready;
      same = refl;
      progress = tt;
      kind = tt;
      took = took_again _ _ _ (took_none _);
      did = did_memory (λ told shows.
          past first.size _ told _ (within_one (documents_within document_limit answer_limit told) first.size
          first.document.tree _ told shows.stands) shows.left) (none_more _) (λ a. a);
      undrawn = λ quiet. (λ at. memory_not_entropy at, quiet);
    })
