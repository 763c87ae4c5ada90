use Rattle.std.proofs.Common.{◌≡◌, ◌≤◌, ◌+◌, ◌*◌, [], length, drop}
use Rattle.bson_codec.specs.Layout.{longest}
use Rattle.serde_json.specs.View.{items_view}
use Rattle.ext_json.specs.Infos.{members_of}
use Rattle.ext_json.proofs.infos.members_in.Given as goal

abbrev pub invariant-loop-item : goal.invariant-loop-item
invariant-loop-item l =
    (length l.out.items ≤ longest)
    × (5 * l.number ≤ length l.out.items + 5)
    × (members_of l.number l.out.items (items_view (drop l.item-index l.item-items))
    ≡ members_of 1 [] (items_view l.item-items))
