-- What stands behind the first document says what the turn does.
use Rattle.std.proofs.Common.{◌≡◌, ◌∙◌, ◌+◌, ◌≤◌, ℕ, [], drop, length, ap, arith, refl, subst, sym}
use Rattle.bson_tree.specs.Tree.{Items}
use Rattle.fle_outside.specs.Filling.{RoseBy}
use Rattle.fle_stream.specs.Next.{IsOfNext}
use Rattle.fle_stream.specs.Pairs.{Pairing, answer_limit, paired}
use Rattle.fle_stream.specs.Plan.{DrawsNone}
use Rattle.fle_stream.specs.Streams.{Docs, document_limit, documents_within, nothing, faulty}
use Rattle.fle_stream.specs.Task.{two_documents}
use Rattle.fle_stream.specs.Turn.{Progresses}
use Rattle.fle_stream.specs.declared.turning.Turn.TheVariants as turns
use Rattle.fle_stream.specs.declared.why.Bound.TheVariants as bounds
use Rattle.fle_stream.specs.declared.why.Finish.TheVariants as finishes
use Rattle.fle_stream.proofs.Bodies.{read_fault, read_ok}
use Rattle.fle_stream.proofs.Exits.{did_finish, did_memory, did_stop, did_write, next_kind, write_kind}
use Rattle.fle_stream.proofs.Exits.{write_progress, write_took, write_undrawn}
use Rattle.fle_stream.proofs.Fronts.{rose_size}
use Rattle.fle_stream.proofs.Judgings.{past}
use Rattle.fle_stream.proofs.Opens.{took_again, took_none, took_second, took_whole}
use Rattle.fle_stream.proofs.PairExits.{Opened, front_pair, pair_ends, pair_refused, pair_stops}
use Rattle.fle_stream.proofs.PairTurns.{late_answer, left_behind, passes, told_as, within_two}
use Rattle.fle_stream.proofs.Turned.{finished_no, memory_not_entropy, none_more}
use Rattle.fle_stream.proofs.pairing.judge_pair.Goals as goal

pub returns-then-begun-ge-STREAM_LIMIT : goal.returns-then-begun-ge-STREAM_LIMIT
returns-then-begun-ge-STREAM_LIMIT g c =
    let w : Pairing = g.J.PairJudge.pairing c.args.judge.now in
    let first = c.args.first.now in
    rw c.ended.ensures.by (record {
      ready = c.requires.ready;
      same = refl;
      progress = tt;
      kind = tt;
      took = took_second _ _ _ (took_none _);
      did = did_finish (finishes.Limit bounds.Stream) (λ told shows. record {
        used = first.size;
        is = ap (λ (docs : Docs). paired w first.number first.taken docs) shows.stands
            ∙ late_answer w first.number first.taken first.size first.document.tree
            (documents_within answer_limit document_limit (drop first.size told)) c.requires.begun
            c.if-begun-ge-STREAM_LIMIT.true c.requires.opened;
        left = shows.left;
      }) (none_more _) (λ a. a);
      undrawn = λ quiet. (λ at. finished_no _ _ at, quiet);
    })

pub returns-in-Passes : goal.returns-in-Passes
returns-in-Passes g c =
    let w : Pairing = g.J.PairJudge.pairing c.args.judge.now in
    let first = c.args.first.now in
    let tree : Items = first.document.tree in
    let framed = c.in-Framed.ensures in
    let m : ℕ = c.len.result in
    let long : m ≡ length c.in-Framed.bytes.items = omega (arith, c.len.ensures, c.in-Framed.bytes.ok) in
    let o : Opened w first.taken first.size tree =
    record { begun = c.requires.begun; behind = c.if-begun-ge-STREAM_LIMIT.false; opens = c.requires.opened } in
    let judged = c.judge-judged.ensures in
    let says = c.write_judged.ensures.wrote _ _ _ judged.judged in
    let rose = rose_size _ _ _ _ long framed.took in
    let least : 5 ≤ m = omega (arith, long, framed.sound.0) in
    let most : m ≤ 48000000 = omega (arith, long, framed.sound.1) in
    let goes : Progresses two_documents first.taken (turns.Wrote (first.size + m) 2) = (
      omega (arith, c.requires.begun),
      omega arith,
      omega arith,
      omega (arith, c.requires.least, least),
      omega (arith, c.requires.most, most),
      omega (arith, c.requires.most, most),
    ) in
    rw c.turn_of.ensures.by (record {
      ready = judged.ready;
      same = judged.same;
      progress = write_progress two_documents first.taken first.number 2 (first.size + m) c.write_judged.result goes;
      kind = write_kind first.number 2 (first.size + m) _ _ _ _ (w.comes tree) c.write_judged.result says;
      took = write_took two_documents first.size first.number _ _ 2 (first.size + m) c.write_judged.result
          (omega arith) (omega (arith, rose.0), omega (arith, rose.1)) (omega arith) (omega (arith, rose.0))
          (omega (arith, rose.1, most));
      did = did_write (w.comes tree) 2 (first.size + m) c.write_judged.result (λ told shows.
          let next = framed.next document_limit (drop first.size told) shows.left in
          let document = rw c.deref.ensures.value at c.in-Ok.ensures.exact in
          front_pair w first.number first.taken first.size tree o m c.in-Ok.answer.tree told _ shows
          (read_ok answer_limit document_limit (drop first.size told) c.in-Framed.bytes.items _ m c.in-Ok.answer.tree
          long next.0 next.1 document) (passes _ c.in-Passes.ensures.checked))
          framed.later (λ a. (framed.sure a).1) says;
      undrawn = λ quiet. (
        write_undrawn first.number 2 (first.size + m) _ _ _ _ (w.comes tree) c.write_judged.result says (quiet tree),
        subst (λ (u : Pairing). DrawsNone u.comes) (sym judged.same) quiet,
      );
    })

pub returns-in-Refused : goal.returns-in-Refused
returns-in-Refused g c =
    let w : Pairing = g.J.PairJudge.pairing c.args.judge.now in
    let first = c.args.first.now in
    let framed = c.in-Framed.ensures in
    let o : Opened w first.taken first.size first.document.tree =
    record { begun = c.requires.begun; behind = c.if-begun-ge-STREAM_LIMIT.false; opens = c.requires.opened } in
    rw c.refused.ensures.by (record {
      ready = c.requires.ready;
      same = refl;
      progress = tt;
      kind = tt;
      took = took_second _ _ _ (took_whole answer_limit _ _ _ framed.took framed.sound.1);
      did = did_finish (finishes.Refused c.in-Refused.reason c.in-Refused.place) (λ told shows.
          let next = framed.next document_limit (drop first.size told) shows.left in
          let document = rw c.deref.ensures.value at c.in-Ok.ensures.exact in
          pair_refused w first.number first.taken first.size first.document.tree o
          (length c.in-Framed.bytes.items) c.in-Ok.answer.tree told _ c.in-Refused.reason c.in-Refused.place shows
          (read_ok answer_limit document_limit (drop first.size told) c.in-Framed.bytes.items _
          (length c.in-Framed.bytes.items) c.in-Ok.answer.tree refl next.0 next.1 document)
          c.in-Refused.ensures.checked)
          framed.later (λ a. (framed.sure a).1);
      undrawn = λ quiet. (λ at. finished_no _ _ at, quiet);
    })

pub returns-in-Ok : goal.returns-in-Ok
returns-in-Ok g c =
    let first = c.args.first.now in
    let framed = c.in-Framed.ensures in
    let m = length c.in-Framed.bytes.items in
    rw c.ended-in-Memory.ensures.by (record {
      ready = c.requires.ready;
      same = refl;
      progress = tt;
      kind = tt;
      took = took_again _ _ _ (took_whole answer_limit _ _ _ framed.took framed.sound.1);
      did = did_memory (λ told shows.
          let next = framed.next document_limit (drop first.size told) shows.left in
          let document = rw c.deref.ensures.value at c.in-Ok.ensures.exact in
          let read = read_ok answer_limit document_limit (drop first.size told) c.in-Framed.bytes.items _ m
          c.in-Ok.answer.tree refl next.0 next.1 document in
          past (first.size + m) _ told _ (within_two first.size m first.document.tree c.in-Ok.answer.tree told _
          shows.stands read.stands) (left_behind first.size m told _ read.left))
          framed.later (λ a. (framed.sure a).1);
      undrawn = λ quiet. (λ at. memory_not_entropy at, quiet);
    })

pub returns-in-Framed : goal.returns-in-Framed
returns-in-Framed g c =
    let w : Pairing = g.J.PairJudge.pairing c.args.judge.now in
    let first = c.args.first.now in
    let framed = c.in-Framed.ensures in
    let m = length c.in-Framed.bytes.items in
    let o : Opened w first.taken first.size first.document.tree =
    record { begun = c.requires.begun; behind = c.if-begun-ge-STREAM_LIMIT.false; opens = c.requires.opened } in
    rw c.ended-in-Err.ensures.by (record {
      ready = c.requires.ready;
      same = refl;
      progress = tt;
      kind = tt;
      took = took_second _ _ _ (took_whole answer_limit _ _ _ framed.took framed.sound.1);
      did = did_finish (finishes.Malformed c.in-Err.fault) (λ told shows.
          let next = framed.next document_limit (drop first.size told) shows.left in
          let document = rw c.deref.ensures.value at c.in-Err.ensures.exact in record {
            used = first.size + m;
            is = pair_ends w first.number first.taken first.size first.document.tree o told (faulty m c.in-Err.fault)
                shows (read_fault answer_limit document_limit (drop first.size told) c.in-Framed.bytes.items
                c.in-Err.fault next.0 document);
            left = left_behind first.size m told _ next.1;
          }) framed.later (λ a. (framed.sure a).1);
      undrawn = λ quiet. (λ at. finished_no _ _ at, quiet);
    })

pub returns-in-Nothing : goal.returns-in-Nothing
returns-in-Nothing g c =
    let w : Pairing = g.J.PairJudge.pairing c.args.judge.now in
    let first = c.args.first.now in
    let none = c.in-Nothing.ensures in
    let o : Opened w first.taken first.size first.document.tree =
    record { begun = c.requires.begun; behind = c.if-begun-ge-STREAM_LIMIT.false; opens = c.requires.opened } in
    rw c.refused-in-Nothing.ensures.by (record {
      ready = c.requires.ready;
      same = refl;
      progress = tt;
      kind = tt;
      took = took_again _ _ _ none.took;
      did = did_finish (finishes.Refused c.missing.result c.from_vec.result) (λ told shows.
          let next = none.next document_limit (drop first.size told) shows.left in record {
            used = first.size;
            is = pair_ends w first.number first.taken first.size first.document.tree o told nothing shows next.0
                ∙ told_as w.missing c.missing.result [] c.from_vec.result first.number first.size
                (sym c.missing.ensures.missing) (sym (c.from_vec.ensures.same ∙ c.new.ensures.items));
            left = next.1;
          }) none.later (λ a. (none.sure a).1);
      undrawn = λ quiet. (λ at. finished_no _ _ at, quiet);
    })

pub returns : goal.returns
returns g c =
    let w : Pairing = g.J.PairJudge.pairing c.args.judge.now in
    let first = c.args.first.now in
    let stops = c.in-Stops.ensures in
    let o : Opened w first.taken first.size first.document.tree =
    record { begun = c.requires.begun; behind = c.if-begun-ge-STREAM_LIMIT.false; opens = c.requires.opened } in
    rw c.ended-in-Stops.ensures.by (record {
      ready = c.requires.ready;
      same = refl;
      progress = tt;
      kind = next_kind c.in-Stops.why stops.sound;
      took = took_second _ _ _ stops.took;
      did = did_stop c.in-Stops.why stops.sound (λ told shows.
          pair_stops w first.number first.taken first.size first.document.tree o told _ _ _ c.in-Stops.why stops.sound
          shows (stops.next document_limit (drop first.size told) shows.left))
          stops.later stops.cause stops.sure;
      undrawn = λ quiet. (λ at. subst IsOfNext at stops.sound, quiet);
    })
