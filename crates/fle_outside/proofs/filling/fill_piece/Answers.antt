-- Each read fills the buffer further with what the source handed out.
use Rattle.std.proofs.Common.{◌≡◌, length, ◌-◌, arith}
use Rattle.fle_outside.proofs.Pieces.{length-put_mid-≤, filled_more, filled_end, filled_whole}
use Rattle.fle_outside.proofs.filling.fill_piece.Goals as goal

pub loop-at-preserved : goal.loop-at-preserved
loop-at-preserved g c = record {
  within = length-put_mid-≤ c.loop-at.at (length c.loop-at.piece - c.loop-at.at) c.in-Took.n c.loop-at.piece
      c.read.new.piece c.loop-at.invariant.within c.in-Took.ensures.within.1;
  later = omega (arith, c.loop-at.invariant.later, c.in-Took.ensures.cause.later);
  sure = λ assured. (c.in-Took.ensures.sure (c.loop-at.invariant.sure assured)).1;
  counted = (
    omega (arith, c.loop-at.invariant.counted.0, c.in-Took.ensures.counts),
    omega (arith, c.loop-at.invariant.counted.1, c.in-Took.ensures.counts),
  );
  filled = λ told is.
      let before = c.loop-at.invariant.filled told is in
      let takes = rw before.1 at c.in-Took.ensures.bytes in
      filled_more c.loop-at.at (length c.loop-at.piece - c.loop-at.at) c.in-Took.n c.loop-at.piece c.read.new.piece told
      _ c.loop-at.invariant.within c.in-Took.ensures.within.1 before.0 takes;
}

pub returns-in-End-clause-bytes : goal.returns-in-End-clause-bytes
returns-in-End-clause-bytes g c = λ told is.
    let before = c.loop-at.invariant.filled told is in
    let takes = rw before.1 at c.in-End.ensures.bytes in
    filled_end c.loop-at.at (length c.loop-at.piece - c.loop-at.at) c.loop-at.piece c.read.new.piece told _
    c.loop-at.invariant.within before.0 takes

pub returns-clause-bytes : goal.returns-clause-bytes
returns-clause-bytes g c = λ told is.
    let before = c.loop-at.invariant.filled told is in
    let all : c.loop-at.at ≡ length c.loop-at.piece = omega (arith, c.loop-at.invariant.within, c.loop-at-test.false) in
    filled_whole c.loop-at.at c.loop-at.piece told _ all before.0 before.1

pub returns-in-Failed-clause-counts : goal.returns-in-Failed-clause-counts
returns-in-Failed-clause-counts g c =
    let size = length-put_mid-≤ c.loop-at.at (length c.loop-at.piece - c.loop-at.at) 0 c.loop-at.piece c.read.new.piece
    c.loop-at.invariant.within (omega arith) in (
      omega (arith, c.loop-at.invariant.counted.0, c.in-Failed.ensures.counts),
      omega (arith, size, c.loop-at.invariant.counted.1, c.in-Failed.ensures.counts),
    )
