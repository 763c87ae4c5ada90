use Rattle.std.proofs.Common.{◌≡◌, [], drop, length, map}
use Rattle.doc_rewrite.specs.Plans.{AreRuled}
use Rattle.doc_rewrite.specs.Sites.{sites_of}
use Rattle.context_machine.specs.NameSpans.{AreNeeded}
use Rattle.context_machine.specs.Needs.{first_needs, needs_seen, with_new}
use Rattle.context_machine.specs.Rings.{need_at}
use Rattle.context_machine.specs.Slots.{AreManySlots}
use Rattle.context_machine.proofs.command_needs.wanted_under.Given as goal

abbrev pub invariant-loop-i : goal.invariant-loop-i
invariant-loop-i l = record {
  left : with_new (needs_seen l.needs.items) (map need_at (sites_of l.rows l.command (drop l.i l.marks)))
      ≡ first_needs (map need_at (sites_of l.rows l.command l.marks));
  ruled : AreRuled (length l.rows) (drop l.i l.marks);
  slots : AreManySlots (needs_seen l.needs.items) [] l.slots;
  names : AreNeeded l.command (needs_seen l.needs.items) l.names;
}
