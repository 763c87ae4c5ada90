-- The elements before the offset among those that are left end where those of all the bytes do, and the others are the
-- same.
use Rattle.std.proofs.Common.{◌≡◌, ◌+◌, ◌≤◌, length}
use Rattle.bson_tree.specs.Spelling.{items_bytes}
use Rattle.bson_codec.specs.Borrowed.{elements_of, SpellsElements}
use Rattle.bson_codec.specs.Cuts.{before_meeting, from_meeting}
use Rattle.bson_codec.proofs.cut.cut_at.Given as goal

abbrev pub invariant-loop-parts : goal.invariant-loop-parts
invariant-loop-parts l = record {
  from : l.start ≤ l.next;
  place : l.next + length l.rest ≡ l.start + length l.bytes;
  spelled : SpellsElements l.rest;
  width : l.next + length (items_bytes (before_meeting l.at l.next (elements_of l.rest)))
      ≡ l.start + length (items_bytes (before_meeting l.at l.start (elements_of l.bytes)));
  left : from_meeting l.at l.next (elements_of l.rest) ≡ from_meeting l.at l.start (elements_of l.bytes);
}

abbrev pub decreases-loop-parts : goal.decreases-loop-parts
decreases-loop-parts l = length l.rest
