-- The outputs so far are written; what comes of the bytes that are left comes of all.
use Rattle.std.proofs.Common.{true, ◌≡◌, ◌+◌, ◌*◌, ◌-◌, ◌^◌, ◌<◌, ◌≤◌, min, List, ℕ, Some}
use Rattle.fle_stream.specs.Task.{course_of, pace_of}
use Rattle.fle_stream.proofs.Turnings.{Going}
use Rattle.fle_stream.proofs.turning.run_turns.Given as goal

abbrev pub invariant-loop-bytes : goal.invariant-loop-bytes
invariant-loop-bytes g l = record {
  some : 0 < l.number;
  few : 5 * (l.number - 1) ≤ l.taken;
  small : l.taken < 2 ^ 41;
  ready : g.T.Verb.ready l.verb;
  same : g.T.Verb.task l.verb ≡ g.T.Verb.task l.fn.verb;
  least : min ((g.S.Source.seen l.fn.input).taken + l.taken) (2 ^ 64 - 1) ≤ (g.S.Source.seen l.input).taken;
  most : (g.S.Source.seen l.input).taken
      ≤ (g.S.Source.seen l.fn.input).taken + (pace_of (g.T.Verb.task l.fn.verb)).bytes * (l.number - 1);
  in_later : (g.S.Source.seen l.fn.input).faults ≤ (g.S.Source.seen l.input).faults;
  out_later : (g.O.Sink.seen l.fn.out).faults ≤ (g.O.Sink.seen l.out).faults;
  entropy_later : (g.N.Entropy.seen l.fn.entropy).faults ≤ (g.N.Entropy.seen l.entropy).faults;
  sure : (g.S.Source.seen l.fn.input).assured ≡ true → (g.S.Source.seen l.input).assured ≡ true;
  quiet : g.T.Verb.quiet l.fn.verb → g.T.Verb.quiet l.verb;
  going : (told : List ℕ) → (g.S.Source.seen l.fn.input).told ≡ Some told
      → Going (course_of (g.T.Verb.task l.fn.verb)) told (g.S.Source.seen l.input).told (g.N.Entropy.seen l.fn.entropy)
      (g.N.Entropy.seen l.entropy) (g.O.Sink.seen l.fn.out) (g.O.Sink.seen l.out) l.number l.taken;
}

abbrev pub decreases-loop-bytes : goal.decreases-loop-bytes
decreases-loop-bytes g l = 2 ^ 41 - l.taken
