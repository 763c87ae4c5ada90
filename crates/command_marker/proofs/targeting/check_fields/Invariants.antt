use Rattle.std.proofs.Common.{◌≡◌, false}
use Rattle.command_marker.specs.Fields.{later_refusal}
use Rattle.command_marker.proofs.targeting.check_fields.Given as goal

abbrev pub invariant-loop-field : goal.invariant-loop-field
invariant-loop-field l =
    later_refusal l.db l.command l.seen l.field-iterator.start l.field-iterator.tree
    ≡ later_refusal l.db l.command false l.fn.fields.start l.fn.fields.tree
