-- What stands first in the input says what the turn does, or the verb goes on with it.
use Rattle.std.proofs.Common.{◌≡◌, ◌≤◌, ◌^◌, ℕ, length, refl, subst, arith}
use Rattle.fle_stream.specs.Streams.{document_limit, nothing, faulty}
use Rattle.fle_stream.specs.Task.{Task, other_limit}
use Rattle.fle_stream.specs.Next.{IsOfNext}
use Rattle.fle_stream.specs.declared.why.Bound.TheVariants as bounds
use Rattle.fle_stream.specs.declared.why.Finish.TheVariants as finishes
use Rattle.fle_stream.proofs.Bodies.{read_fault, read_ok}
use Rattle.fle_stream.proofs.Exits.{did_behind, did_finish, did_stop, next_kind}
use Rattle.fle_stream.proofs.Fronts.{course_ends, course_late, front_read, front_stops, rose_size, took_all, took_front}
use Rattle.fle_stream.proofs.Opens.{took_whole}
use Rattle.fle_stream.proofs.Turned.{finished_no, none_more, took_nothing}
use Rattle.fle_stream.proofs.turning.take_turn.Goals as goal

pub returns-then-taken-ge-STREAM_LIMIT : goal.returns-then-taken-ge-STREAM_LIMIT
returns-then-taken-ge-STREAM_LIMIT g c =
    let t : Task = g.T.Verb.task c.args.verb.now in
    rw c.ended.ensures.by (record {
      ready = c.requires.ready;
      same = refl;
      progress = tt;
      kind = tt;
      took = took_front t _ _ _ c.requires.reads (took_nothing _);
      did = did_finish (finishes.Limit bounds.Stream) (λ told shows. record {
        used = 0;
        is = course_late t c.args.number c.args.taken told c.requires.reads c.if-taken-ge-STREAM_LIMIT.true;
        left = shows;
      }) (none_more _) (λ a. a);
      undrawn = λ quiet. (λ at. finished_no _ _ at, quiet);
    })

pub returns-in-Ok : goal.returns-in-Ok
returns-in-Ok g c =
    let t : Task = g.T.Verb.task c.args.verb.now in
    let framed = c.in-Framed.ensures in
    let long : c.len-size.result ≡ length c.in-Framed.bytes.items =
    omega (arith, c.len-size.ensures, c.in-Framed.bytes.ok) in
    let least : 5 ≤ c.len-size.result = omega (arith, long, framed.sound.0) in
    let most : c.len-size.result ≤ 2 ^ 24 = omega (arith, long, framed.sound.1) in
    let ends = c.go_on.ensures in
    record {
      ready = ends.ready;
      same = ends.same;
      progress = ends.progress;
      kind = ends.kind;
      took = took_all t _ _ _ _ _ _ c.requires.reads least most (rose_size _ _ _ _ long framed.took) ends.took;
      did = did_behind {mid = g.S.Source.seen c.next_document.new.source} (λ told shows.
          let next = framed.next (other_limit t) told shows in
          let document = rw c.deref.ensures.value at c.in-Ok.ensures.exact in
          front_read t c.len-size.result c.in-Ok.document.tree (g.S.Source.seen c.next_document.new.source) told
          (read_ok document_limit (other_limit t) told c.in-Framed.bytes.items _ c.len-size.result c.in-Ok.document.tree
          long next.0 next.1 document))
          framed.later (λ a. (framed.sure a).1) ends.did;
      undrawn = ends.undrawn;
    }

pub returns-in-Framed : goal.returns-in-Framed
returns-in-Framed g c =
    let t : Task = g.T.Verb.task c.args.verb.now in
    let framed = c.in-Framed.ensures in
    let n = length c.in-Framed.bytes.items in
    rw c.ended-in-Err.ensures.by (record {
      ready = c.requires.ready;
      same = refl;
      progress = tt;
      kind = tt;
      took = took_front t _ _ _ c.requires.reads (took_whole document_limit _ _ _ framed.took framed.sound.1);
      did = did_finish (finishes.Malformed c.in-Err.fault) (λ told shows.
          let next = framed.next (other_limit t) told shows in
          let document = rw c.deref.ensures.value at c.in-Err.ensures.exact in record {
            used = n;
            is = course_ends t c.args.number c.args.taken told (faulty n c.in-Err.fault) c.requires.reads
                c.if-taken-ge-STREAM_LIMIT.false
                (read_fault document_limit (other_limit t) told c.in-Framed.bytes.items c.in-Err.fault next.0 document);
            left = next.1;
          }) framed.later (λ a. (framed.sure a).1);
      undrawn = λ quiet. (λ at. finished_no _ _ at, quiet);
    })

pub returns-in-Nothing : goal.returns-in-Nothing
returns-in-Nothing g c =
    let t : Task = g.T.Verb.task c.args.verb.now in
    let none = c.in-Nothing.ensures in
    rw c.ended-in-Nothing.ensures.by (record {
      ready = c.requires.ready;
      same = refl;
      progress = tt;
      kind = tt;
      took = took_front t _ _ _ c.requires.reads none.took;
      did = did_finish finishes.Done (λ told shows.
          let next = none.next (other_limit t) told shows in record {
            used = 0;
            is = course_ends t c.args.number c.args.taken told nothing c.requires.reads
                c.if-taken-ge-STREAM_LIMIT.false next.0;
            left = next.1;
          }) none.later (λ a. (none.sure a).1);
      undrawn = λ quiet. (λ at. finished_no _ _ at, quiet);
    })

pub returns : goal.returns
returns g c =
    let t : Task = g.T.Verb.task c.args.verb.now in
    let stops = c.in-Stops.ensures in
    rw c.ended-in-Stops.ensures.by (record {
      ready = c.requires.ready;
      same = refl;
      progress = tt;
      kind = next_kind c.in-Stops.why stops.sound;
      took = took_front t _ _ _ c.requires.reads stops.took;
      did = did_stop c.in-Stops.why stops.sound (λ told shows.
          front_stops t c.args.number c.args.taken told _ _ _ c.in-Stops.why c.requires.reads
          c.if-taken-ge-STREAM_LIMIT.false stops.sound (stops.next (other_limit t) told shows))
          stops.later stops.cause stops.sure;
      undrawn = λ quiet. (λ at. subst IsOfNext at stops.sound, quiet);
    })
