-- One slot more, for the next value.
use Rattle.std.proofs.Common.{◌∙◌, List, [], ap, map, subst, sym, take}
use Rattle.std.proofs.lemmas.List.{map-append, take_more}
use Rattle.context_machine.specs.Needs.{NeedAt, need_at_seen, needs_seen}
use Rattle.context_machine.specs.Slots.{AreSlots}
use Rattle.context_machine.proofs.Filled.{one_more}
use Rattle.context_machine.proofs.needed.add_slots.Goals as goal

pub loop-n-preserved : goal.loop-n-preserved
loop-n-preserved c =
    subst (λ (ns : List NeedAt). AreSlots ns [] c.add.new.self)
    (sym (ap (map need_at_seen) (take_more c.args.needs.now c.loop-n.n-index _ c.loop-n-test.true)
    ∙ map-append need_at_seen (take c.loop-n.n-index c.args.needs.now) _))
    (one_more (needs_seen (take c.loop-n.n-index c.args.needs.now)) c.loop-n.slots c.add.new.self _ c.loop-n.invariant
    c.in_ok-add.ensures.put)
