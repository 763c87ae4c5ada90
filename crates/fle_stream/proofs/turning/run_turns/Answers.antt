-- Each turn writes one more output, or ends the run.
use Rattle.std.proofs.Common.{refl, ◌∙◌, ap, arith, drop}
use Rattle.fle_stream.specs.Task.{course_of, pace_of, reads_input, spans_of}
use Rattle.fle_stream.proofs.Acts.{course_blocks, course_bytes, did_turns, ends_reads, folder_no, reads_one}
use Rattle.fle_stream.proofs.Turnings.{begins, goes, grows, reaches, stops, room_left, supply_left}
use Rattle.fle_stream.proofs.turning.run_turns.Goals as goal

pub loop-bytes-init : goal.loop-bytes-init
loop-bytes-init g c = record {
  some = omega arith;
  few = omega arith;
  small = omega arith;
  ready = c.requires.ready;
  same = refl;
  least = omega arith;
  most = omega arith;
  in_later = omega arith;
  out_later = omega arith;
  entropy_later = omega arith;
  sure = λ assured. assured;
  quiet = λ quiet. quiet;
  going = λ told is. begins (course_of (g.T.Verb.task c.args.verb.now)) told _ (g.N.Entropy.seen c.args.entropy.now)
      (g.O.Sink.seen c.args.out.now) is;
}

pub take_turn-requires-clause-reads : goal.take_turn-requires-clause-reads
take_turn-requires-clause-reads g c = ap reads_input c.loop-bytes.invariant.same ∙ c.requires.reads

pub loop-bytes-preserved : goal.loop-bytes-preserved
loop-bytes-preserved g c =
    let before = c.loop-bytes.invariant in
    let wrote = rw before.same at c.in-Wrote.ensures.progress in
    let more = grows (pace_of (g.T.Verb.task c.args.verb.now)).bytes c.loop-bytes.number c.in-Wrote.documents
    before.some in
    record {
      some = omega (arith, before.some);
      few = omega (arith, before.few, before.some, wrote.3);
      small = omega (arith, wrote.0, wrote.5);
      ready = c.in-Wrote.ensures.ready;
      same = c.in-Wrote.ensures.same ∙ before.same;
      least = omega (arith, before.least, c.in-Wrote.ensures.took.0);
      most = omega (arith, before.most, more, c.in-Wrote.ensures.took.1, wrote.4);
      in_later = omega (arith, before.in_later, c.in-Wrote.ensures.did.in_later);
      out_later = omega (arith, before.out_later, c.in-Wrote.ensures.did.out_later);
      entropy_later = omega (arith, before.entropy_later, c.in-Wrote.ensures.did.entropy_later);
      sure = λ assured. (c.in-Wrote.ensures.did.in_sure (before.sure assured)).1;
      quiet = λ quiet. (c.in-Wrote.ensures.undrawn (before.quiet quiet)).1;
      going = λ told is.
          let going = before.going told is in
          let step = rw before.same at (c.in-Wrote.ensures.did.course (drop c.loop-bytes.taken told) going.here) in
          goes going step;
    }

pub returns-in-Ended-clause-run : goal.returns-in-Ended-clause-run
returns-in-Ended-clause-run g c = λ files.
    let before = c.loop-bytes.invariant in
    let ends = c.in-Ended.ensures in
    let task = g.T.Verb.task c.args.verb.now in
    let took = rw before.same at ends.took in
    let far = reaches (pace_of task).bytes c.loop-bytes.number (pace_of task).documents c.in-Ended.number before.some
    took.0 in
    record {
      did = λ all told _ is.
          let going = before.going told is in
          let last = rw before.same at (ends.did.course (drop c.loop-bytes.taken told) going.here) in
          did_turns task c.requires.reads ends.kind (stops (spans_of task) going ends.kind last);
      unread = λ all told _ none. absurd (reads_one task c.requires.reads none);
      placed = λ all _. ends_reads task c.requires.reads _ ends.kind;
      took = (
        omega (arith, before.least, before.few, took.0, took.1),
        omega (arith, before.most, took.2, far),
      );
      numbered = λ _. omega (arith, before.some, took.0);
      in_cause = λ at. omega (arith, before.in_later, ends.did.in_cause at);
      in_sure = λ assured at. (ends.did.in_sure (before.sure assured)).0 at;
      folder_cause = λ at. absurd (folder_no _ ends.kind at);
      folder_sure = λ _ at. folder_no _ ends.kind at;
      out_cause = λ at. omega (arith, before.out_later, ends.did.out_cause at);
      out_sure = λ all told _ over enough at.
          let going = before.going told (over c.requires.reads) in
          let sure = rw before.same at (ends.did.out_sure (drop c.loop-bytes.taken told) going.here) in
          sure (room_left going (course_bytes task told enough)) at;
      entropy_cause = λ at. omega (arith, before.entropy_later, ends.did.entropy_cause at);
      entropy_sure = λ all told _ over enough at.
          let going = before.going told (over c.requires.reads) in
          let sure = rw before.same at (ends.did.entropy_sure (drop c.loop-bytes.taken told) going.here) in
          sure (supply_left going (course_blocks task told enough)) at;
    }
