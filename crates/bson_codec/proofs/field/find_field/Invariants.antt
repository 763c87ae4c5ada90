use Rattle.std.proofs.Common.{◌≡◌}
use Rattle.bson_codec.specs.Standings.{field_seen, standing}
use Rattle.bson_codec.proofs.Standings.{combined}
use Rattle.bson_codec.proofs.field.find_field.Given as goal

abbrev pub invariant-loop-item : goal.invariant-loop-item
invariant-loop-item l =
    combined (field_seen l.found) (standing l.word l.item-iterator.tree) ≡ standing l.word l.document.tree
