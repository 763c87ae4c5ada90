-- The front of the piece is filled with what the source handed out so far.
use Rattle.std.proofs.Common.{length, true, ◌-◌, ◌≡◌, ◌≤◌, List, ℕ, Some, ◌++◌, take, drop}
use Rattle.fle_outside.specs.Filling.{RoseBy}
use Rattle.fle_outside.proofs.filling.fill_piece.Given as goal

abbrev pub invariant-loop-at : goal.invariant-loop-at
invariant-loop-at g l = record {
  within : l.at ≤ length l.piece;
  later : (g.S.Source.seen l.fn.source).faults ≤ (g.S.Source.seen l.source).faults;
  sure : (g.S.Source.seen l.fn.source).assured ≡ true → (g.S.Source.seen l.source).assured ≡ true;
  counted : RoseBy (g.S.Source.seen l.fn.source).taken (g.S.Source.seen l.source).taken l.at;
  filled : (told : List ℕ) → (g.S.Source.seen l.fn.source).told ≡ Some told
      → (told ≡ take l.at l.piece ++ drop l.at told) × ((g.S.Source.seen l.source).told ≡ Some (drop l.at told));
}

abbrev pub decreases-loop-at : goal.decreases-loop-at
decreases-loop-at g l = length l.initial.piece - l.at
