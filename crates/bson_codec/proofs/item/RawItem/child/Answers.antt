-- The bytes of a value with a document inside spell that document.
use Rattle.std.proofs.Common.{◌≡◌, true}
use Rattle.bson_codec.specs.Borrowed.{is_inner}
use Rattle.bson_codec.proofs.Items.{child_spells}
use Rattle.bson_codec.proofs.item.RawItem.child.Goals as goal

pub invariant_of-result : goal.invariant_of-result
invariant_of-result c =
    let inner : is_inner c.self.inside.tag ≡ true = cc in
    (c.self.invariant.0, child_spells c.self.inside.tag c.self.inside.value.now c.self.invariant.1 inner)
